-- One step of the way upwards through the superclasses of a program's own.
use Rattle.std.proofs.Common.{◌≡◌, ℕ, zero, suc, ◌<◌, ◌-◌, List, [], ◌∷◌, ◌++◌, Option, Some, None, refl, sym, ap, ◌∙◌, arith, append_assoc}
use Rattle.std.proofs.lemmas.List.{append-nil}
use Rattle.std.specs.Prelude.{Bool, true, false, length}
use Rattle.je_core.specs.declared.types.ClassId.{ClassId}
use Rattle.je_core.specs.Core.{CoreClass, CoreProgram}
use Rattle.je_classes.specs.Hierarchy.{class_at}
use Rattle.je_fitting.specs.Members.{is_guest}
use Rattle.overlay_types.specs.Guests.{guests_upwards, guest_superclasses, superclass_in}

module _ (p : CoreProgram) where
  pub at_first : (n : ℕ) (c : CoreClass) → n ≡ length p.classes → guests_upwards p n c.superclass ≡ guest_superclasses p c
  unfolding guest_superclasses
  at_first n c e = ap (λ k. guests_upwards p k c.superclass) e

  pub none_left : (n : ℕ) (above : Option ClassId) → n ≡ 0 → guests_upwards p n above ≡ []
  none_left zero None e = refl
  none_left zero (Some s) e = refl
  none_left (suc n) above e = absurd (omega arith)

  pub none_above : (n : ℕ) → guests_upwards p n None ≡ []
  none_above zero = refl
  none_above (suc n) = refl

  pub of_library : (n : ℕ) (s : ClassId) → is_guest s ≡ false → guests_upwards p n (Some s) ≡ []
  of_library zero s e = refl
  of_library (suc n) s e = rw e refl

  pub of_guest : (n : ℕ) (s : ClassId) → 0 < n → is_guest s ≡ true → guests_upwards p n (Some s) ≡ s ∷ guests_upwards p (n - 1) (superclass_in (class_at p s))
  of_guest zero s l e = absurd (omega arith)
  of_guest (suc n) s l e = let less : n ≡ suc n - 1 = omega arith in rw e (ap (λ k. s ∷ guests_upwards p k (superclass_in (class_at p s))) less)

pub ruleset upwards = (at_first, none_left, none_above, of_library, of_guest)
