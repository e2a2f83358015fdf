-- One step of the way upwards to the method that implements another one.
use Rattle.std.proofs.Common.{◌≡◌, ℕ, zero, suc, ◌<◌, ◌-◌, length, Option, Some, None, refl, sym, ap, ◌∙◌, arith}
use Rattle.std.specs.Prelude.{Bool, true, false, if◌then◌else◌}
use Rattle.je_core.specs.declared.types.ClassId.{ClassId}
use Rattle.je_core.specs.Core.{CoreMethod, CoreClass, CoreProgram}
use Rattle.je_classes.specs.Hierarchy.{class_at}
use Rattle.je_classes.specs.Members.{Member}
use Rattle.je_classes.specs.Dispatch.{own_from, next_above, own_or_above, placed, implemented_upwards, implemented}
use Rattle.class_members.specs.declared.dispatch.Own.{Own}
use Rattle.class_members.specs.declared.dispatch.Own.TheVariants.{Absent, Abstract, At}
use Rattle.class_members.specs.way.Own.{own_of}

abbrev pub member_at : ClassId → ℕ → Member
member_at class at = record { class = class; at = at }

module _ (p : CoreProgram) (m : CoreMethod) where
  pub at_first : (n : ℕ) (class : ClassId) → n ≡ length p.classes → implemented_upwards p n m (Some class) ≡ implemented p class m
  unfolding implemented
  at_first n class e = ap (λ k. implemented_upwards p k m (Some class)) e

  pub none_left : (above : Option ClassId) → implemented_upwards p 0 m above ≡ None
  none_left None = refl
  none_left (Some class) = refl

  pub none_above : (n : ℕ) → implemented_upwards p n m None ≡ None
  none_above zero = refl
  none_above (suc n) = refl

  pub not_there : (n : ℕ) (class : ClassId) → class_at p class ≡ None → implemented_upwards p n m (Some class) ≡ None
  not_there zero class e = refl
  not_there (suc n) class e = ap (own_or_above (implemented_upwards p n m) m class) e

  stepped : (n : ℕ) (class : ClassId) (c : CoreClass) → 0 < n → class_at p class ≡ Some c →
      implemented_upwards p n m (Some class) ≡ placed class (own_from m 0 c.methods) (implemented_upwards p (n - 1) m (next_above c))
  stepped zero class c l e = absurd (omega arith)
  stepped (suc n) class c l e = let s : n ≡ suc n - 1 = omega arith in
      ap (own_or_above (implemented_upwards p n m) m class) e ∙ ap (λ k. placed class (own_from m 0 c.methods) (implemented_upwards p k m (next_above c))) s

  placed_at : (class : ClassId) (o : Option (ℕ × CoreMethod)) (higher : Option Member) (at : ℕ) → At at ≡ own_of o → placed class o higher ≡ Some (member_at class at)
  placed_at class None higher at e = absurd cc
  placed_at class (Some own) higher at e = by own.1.flags.is_abstract e
    where
      by : (b : Bool) → At at ≡ (if b then Abstract else At own.0) → (if b then None else Some (member_at class own.0)) ≡ Some (member_at class at)
      by true h = absurd cc
      by false h = let s : at ≡ own.0 = cc in ap (λ (k : ℕ). Some (member_at class k)) (sym s)

  placed_abstract : (class : ClassId) (o : Option (ℕ × CoreMethod)) (higher : Option Member) → Abstract ≡ own_of o → placed class o higher ≡ None
  placed_abstract class None higher e = absurd cc
  placed_abstract class (Some own) higher e = by own.1.flags.is_abstract e
    where
      by : (b : Bool) → Abstract ≡ (if b then Abstract else At own.0) → (if b then None else Some (member_at class own.0)) ≡ None
      by true h = refl
      by false h = absurd cc

  placed_absent : (class : ClassId) (o : Option (ℕ × CoreMethod)) (higher : Option Member) → Absent ≡ own_of o → placed class o higher ≡ higher
  placed_absent class None higher e = refl
  placed_absent class (Some own) higher e = by own.1.flags.is_abstract e
    where
      by : (b : Bool) → Absent ≡ (if b then Abstract else At own.0) → (if b then None else Some (member_at class own.0)) ≡ higher
      by true h = absurd cc
      by false h = absurd cc

  pub step_at : (n : ℕ) (class : ClassId) (c : CoreClass) (at : ℕ) → 0 < n → class_at p class ≡ Some c → At at ≡ own_of (own_from m 0 c.methods) →
      implemented_upwards p n m (Some class) ≡ Some (member_at class at)
  step_at n class c at l e h = stepped n class c l e ∙ placed_at class (own_from m 0 c.methods) (implemented_upwards p (n - 1) m (next_above c)) at h

  pub step_abstract : (n : ℕ) (class : ClassId) (c : CoreClass) → 0 < n → class_at p class ≡ Some c → Abstract ≡ own_of (own_from m 0 c.methods) → implemented_upwards p n m (Some class) ≡ None
  step_abstract n class c l e h = stepped n class c l e ∙ placed_abstract class (own_from m 0 c.methods) (implemented_upwards p (n - 1) m (next_above c)) h

  pub step_absent : (n : ℕ) (class : ClassId) (c : CoreClass) → 0 < n → class_at p class ≡ Some c → Absent ≡ own_of (own_from m 0 c.methods) →
      implemented_upwards p n m (Some class) ≡ implemented_upwards p (n - 1) m (next_above c)
  step_absent n class c l e h = stepped n class c l e ∙ placed_absent class (own_from m 0 c.methods) (implemented_upwards p (n - 1) m (next_above c)) h

-- for the walk upwards
pub ruleset upwards = (at_first, none_left, none_above, not_there, step_at, step_abstract, step_absent)
