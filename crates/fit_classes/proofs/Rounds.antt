-- One step outwards.
use Rattle.std.proofs.Common.{◌≡◌, ℕ, zero, suc, ◌-◌, ◌<◌, Some, None, refl, ap, ◌∙◌, arith}
use Rattle.std.specs.Prelude.{Bool, true, false, ◌||◌}
use Rattle.je_core.specs.declared.types.ClassId.{ClassId}
use Rattle.je_core.specs.Core.{CoreClass, CoreProgram}
use Rattle.je_classes.specs.Hierarchy.{class_at, same_class}
use Rattle.je_fitting.specs.Classes.{by_next, is_round}

module _ (p : CoreProgram) (class : ClassId) where
  pub round_none : (n : ℕ) → is_round p n class None ≡ false
  round_none zero = refl
  round_none (suc n) = refl

  stepped : (n : ℕ) (inner : ClassId) → 0 < n → is_round p n class (Some inner) ≡ (same_class class inner || by_next (is_round p (n - 1) class) (class_at p inner))
  stepped zero inner l = absurd (omega arith)
  stepped (suc n) inner l = let s : n ≡ suc n - 1 = omega arith in ap (λ k. same_class class inner || by_next (is_round p k class) (class_at p inner)) s

  pub round_here : (n : ℕ) (inner : ClassId) → same_class class inner ≡ true → is_round p n class (Some inner) ≡ true
  round_here zero inner e = e
  round_here (suc n) inner e = rw e refl

  other : (a b : Bool) → a ≡ false → (a || b) ≡ b
  other true b e = absurd cc
  other false b e = refl

  pub round_absent : (n : ℕ) (inner : ClassId) → 0 < n → same_class class inner ≡ false → class_at p inner ≡ None → is_round p n class (Some inner) ≡ false
  round_absent n inner l e q = stepped n inner l ∙ other (same_class class inner) (by_next (is_round p (n - 1) class) (class_at p inner)) e ∙ ap (by_next (is_round p (n - 1) class)) q

  pub round_next : (n : ℕ) (inner : ClassId) (c : CoreClass) → 0 < n → same_class class inner ≡ false → class_at p inner ≡ Some c → is_round p n class (Some inner) ≡ is_round p (n - 1) class c.within
  round_next n inner c l e q = stepped n inner l ∙ other (same_class class inner) (by_next (is_round p (n - 1) class) (class_at p inner)) e ∙ ap (by_next (is_round p (n - 1) class)) q

pub ruleset rounds = (round_none, round_here, round_absent, round_next)
