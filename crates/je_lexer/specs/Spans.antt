-- The bytes of a file that characters take.
use Rattle.std.specs.Prelude.{ℕ, ◌||◌, ◌==◌, List, [], ◌∷◌, if◌then◌else◌}
use Rattle.je_base.specs.declared.span.Span.{Span}
use Rattle.je_decode.specs.declared.character.Character.{Character}
use Rattle.je_lexer.specs.Characters as char
use Rattle.je_lexer.specs.Classes.{ends_line, continues_name}

-- the byte behind the last of the characters; what it is where there is none
abbrev pub end_of : ℕ → List Character → ℕ
end_of end [] = end
end_of end (c ∷ cs) = end_of c.end cs

-- the byte at which the text begins, or the file's end
abbrev pub start_of : ℕ → List Character → ℕ
start_of file_end [] = file_end
start_of file_end (c ∷ cs) = c.start

-- the byte behind the first character
abbrev pub first_end : List Character → ℕ
first_end [] = 0
first_end (c ∷ cs) = c.end

-- the byte behind the second character, or behind the only one
abbrev pub second_end : List Character → ℕ
second_end [] = 0
second_end (c ∷ []) = c.end
second_end (c ∷ d ∷ cs) = d.end

-- the bytes of an element's characters
abbrev pub span_of : ℕ → List Character → Span
span_of file front = record { file = file; start = start_of 0 front; end = end_of 0 front }

-- the byte at which the line ends, or the file's end
abbrev pub line_end : ℕ → List Character → ℕ
line_end file_end [] = file_end
line_end file_end (c ∷ cs) = if ends_line c.code then c.start else line_end file_end cs

-- the byte behind the longest run of identifier characters and points; what it is where none stands there
abbrev pub number_end : ℕ → List Character → ℕ
number_end end [] = end
number_end end (c ∷ cs) = if continues_name c.code || (c.code == char.point) then number_end c.end cs else end
