-- The library's rows, as its table has them.
use Rattle.std.proofs.Common.{◌≡◌, ℕ, zero, suc, ◌≤◌, List, [], ◌∷◌, ◌++◌, length, map, drop, refl, sym, ap, ◌∙◌, arith}
use Rattle.std.specs.Prelude.{Bool, filter}
use Rattle.std.proofs.lemmas.List.{append-nil, length-map}
use Rattle.je_table.specs.declared.classes.ClassRow.{ClassRow}
use Rattle.je_table.specs.declared.members.MemberRow.{MemberRow}
use Rattle.je_table.specs.Library.{classes, library}
use Rattle.je_table.specs.Rows.{Row, class_said, row_of, row_said}
use Rattle.library_classes.specs.Library.{rows}

pub few_rows : (said : List ClassRow) → map class_said said ≡ classes → length said ≡ 39
few_rows said e = omega (arith, length-map said class_said, ap length e)

pub all_rows : (said : List MemberRow) → map row_said said ≡ map row_of library → map row_said said ≡ rows
unfolding rows
all_rows said e = e

ended : {A : Type 0} (xs : List A) (k : ℕ) → length xs ≤ k → drop k xs ≡ []
ended [] zero l = refl
ended [] (suc k) l = refl
ended (x ∷ xs) zero l = absurd (omega arith)
ended (x ∷ xs) (suc k) l = ended xs k (omega arith)

-- what is made of each row that passes, once all were gone over
pub all_made : {B : Type 0} (make : Row → B) (passes : Row → Bool) (said : List MemberRow) (k : ℕ) (made : List B) → length said ≤ k →
    made ++ map make (filter passes (map row_said (drop k said))) ≡ map make (filter passes (map row_said said)) → map row_said said ≡ map row_of library →
    made ≡ map make (filter passes rows)
all_made make passes said k made l e r =
    sym (append-nil made) ∙ ap (λ rs. made ++ map make (filter passes (map row_said rs))) (sym (ended said k l)) ∙ e ∙
    ap (λ rs. map make (filter passes rs)) (all_rows said r)
