-- JLS 3.1: a source file's characters in UTF-8, each with the bytes that spell it.
use Rattle.std.specs.Prelude.{ℕ, ◌+◌, List, [], ◌∷◌, length}
use Rattle.std.specs.Char.{encode_utf8}
use Rattle.je_decode.specs.declared.character.Character.{Character}

-- the characters, the first of which begins at this byte
abbrev pub placed : ℕ → List ℕ → List Character
placed at [] = []
placed at (c ∷ cs) = record { code = c; start = at; end = at + length (encode_utf8 c) } ∷ placed (at + length (encode_utf8 c)) cs
