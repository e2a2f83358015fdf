-- A chain of supers that leads anywhere leads there in no more steps than there are classes.
use Rattle.std.proofs.Common.{◌≡◌, ℕ, zero, suc, ◌<◌, length, Some, None, refl, arith}
use Rattle.std.specs.Prelude.{Bool, true, false, ◌||◌, Option, nat_eq}
use Rattle.std.specs.List.{list_any, Contains}
use Rattle.std.proofs.lemmas.Bool.Decides.{nat_tests}
use Rattle.std.proofs.lemmas.Option.{slice_get_within}
use Rattle.je_core.specs.declared.types.ClassId.{ClassId}
use Rattle.je_core.specs.Core.{CoreClass, CoreProgram}
use Rattle.je_classes.specs.Hierarchy.{class_at, supers_in, supers_of, same_class, below_within, Below, same, above}
use Rattle.je_classes.proofs.Lists.{any-contains}
use Rattle.je_classes.proofs.Ways.{Way, here, longer, reached}

one_class : (c d : ClassId) → c.0 ≡ d.0 → c ≡ d
one_class c d e = grind (arith, nat_tests)

way : (p : CoreProgram) {c d : ClassId} → Below p c d → Way (supers_of p) (λ c. c.0) one_class c d
way p (same {c = c}) = here (supers_of p) (λ c. c.0) one_class c
way p (above {c = c} {d = d} {e = e} q r) = longer (supers_of p) (λ c. c.0) one_class c e d q (way p r)

pub supers-within : (p : CoreProgram) (c e : ClassId) (o : Option CoreClass) → class_at p c ≡ o → Contains (supers_in o) e → c.0 < length p.classes
supers-within p c e None q h = absurd (let g : h.0 < 0 = h.1 in omega arith)
supers-within p c e (Some k) q h = slice_get_within p.classes c.0 k q

itself : (p : CoreProgram) (n : ℕ) (c : ClassId) → below_within p n c c ≡ true
itself p zero c = grind (arith, nat_tests)
itself p (suc n) c = let s : same_class c c ≡ true = grind (arith, nat_tests) in rw s refl

or_right : (x y : Bool) → y ≡ true → (x || y) ≡ true
or_right true y e = refl
or_right false y e = e

further : (p : CoreProgram) (n : ℕ) (c e d : ClassId) → Contains (supers_of p c) e → below_within p n e d ≡ true → below_within p (suc n) c d ≡ true
further p n c e d q h = or_right (same_class c d) _ (any-contains (λ k. below_within p n k d) (supers_of p c) e q h)

pub below-within : (p : CoreProgram) (c d : ClassId) → Below p c d → below_within p (length p.classes) c d ≡ true
below-within p c d b = reached (supers_of p) (λ c. c.0) one_class (length p.classes) (λ c e q. supers-within p c e (class_at p c) refl q) (below_within p) (itself p) (further p) c d (way p b)
