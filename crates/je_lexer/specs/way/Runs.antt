-- How many characters stand at the front of a text: white space, a name, a comment's body, and so on.
use Rattle.std.specs.Prelude.{ℕ, suc, Bool, not, ◌&&◌, ◌||◌, ◌==◌, List, [], ◌∷◌, if◌then◌else◌}
use Rattle.std.specs.List.{prefix_len}
use Rattle.je_decode.specs.declared.character.Character.{Character}
use Rattle.je_lexer.specs.Characters as char
use Rattle.je_lexer.specs.Classes.{is_space, ends_line, continues_name, begins_with}

-- how many characters at the front pass
abbrev pub run_of : (ℕ → Bool) → List Character → ℕ
run_of passes text = prefix_len (λ c. passes c.code) text

abbrev pub space_run : List Character → ℕ
space_run text = run_of is_space text

abbrev pub name_run : List Character → ℕ
name_run text = run_of continues_name text

-- identifier characters and points
abbrev pub number_run : List Character → ℕ
number_run text = run_of (λ code. continues_name code || (code == char.point)) text

-- up to the line's end
abbrev pub line_run : List Character → ℕ
line_run text = run_of (λ code. not (ends_line code)) text

-- up to the first `*/`
abbrev pub comment_run : List Character → ℕ
comment_run [] = 0
comment_run (c ∷ cs) = if (c.code == char.star) && begins_with char.slash cs then 0 else suc (comment_run cs)

-- up to the quote that closes a literal, or to its line's end; behind a backslash no quote closes
abbrev pub literal_run : ℕ → Bool → List Character → ℕ
literal_run quote escaped [] = 0
literal_run quote escaped (c ∷ cs) =
    if ends_line c.code || (not escaped && (c.code == quote)) then 0 else suc (literal_run quote (not escaped && (c.code == char.backslash)) cs)
