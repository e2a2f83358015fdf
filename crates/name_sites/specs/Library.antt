-- The classes of `java.lang` by the names of a program, and names with points.
use Rattle.std.specs.Prelude.{ℕ, List, [], ◌∷◌, ◌++◌, map, Option, codes}
use Rattle.je_table.specs.Library.{class_number}

abbrev pub implicit_number : List ℕ → Option ℕ
implicit_number text = class_number (codes "java.lang." ++ text)

abbrev pub implicit_numbers : List (List ℕ) → List (Option ℕ)
implicit_numbers texts = map implicit_number texts

-- parts behind others, with a point before each
abbrev pub further_text : List (List ℕ) → List ℕ
further_text [] = []
further_text (part ∷ parts) = (46 ∷ part) ++ further_text parts
