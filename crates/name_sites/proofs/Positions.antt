-- The place of the row of a full name, by what the rows say.
use Rattle.std.proofs.Common.{◌≡◌, ℕ, ◌+◌, Bool, not, cond, List, [], ◌∷◌, length, map, refl, ◌∙◌, sym, ap}
use Rattle.std.specs.List.{position, position_or_len}
use Rattle.std.specs.Str.{bytes_eq}
use Rattle.std.proofs.lemmas.List.{length-map}
use Rattle.je_table.specs.Library.{Class, classes, class_number}
use Rattle.je_table.specs.Rows.{class_said}
use Rattle.je_table.specs.declared.classes.ClassRow.{ClassRow}

first-map : {X Y : Type 0} (p : Y → Bool) (f : X → Y) (xs : List X) → position_or_len p (map f xs) ≡ position_or_len (λ x. p (f x)) xs
first-map p f [] = refl
first-map p f (x ∷ xs) = ap (λ (n : ℕ). cond (not (p (f x))) (1 + n) 0) (first-map p f xs)

position-map : {X Y : Type 0} (p : Y → Bool) (f : X → Y) (xs : List X) → position p (map f xs) ≡ position (λ x. p (f x)) xs
position-map p f xs = rw (first-map p f xs, length-map xs f) refl

pub row_named : (rows : List ClassRow) (name : List ℕ) → map class_said rows ≡ classes → position (λ row. bytes_eq row.name.now name) rows ≡ class_number name
row_named rows name e = sym (position-map (λ (c : Class). bytes_eq c.name name) class_said rows) ∙ ap (λ (cs : List Class). position (λ (c : Class). bytes_eq c.name name) cs) e

pub count_of_rows : (rows : List ClassRow) → map class_said rows ≡ classes → length rows ≡ 39
count_of_rows rows e = sym (length-map rows class_said) ∙ ap (λ (cs : List Class). length cs) e
