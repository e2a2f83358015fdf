-- One class more on the way up.
use Rattle.std.proofs.Common.{◌≡◌, ◌<◌, ◌-◌, ℕ, zero, suc, Some, None, refl, ap, arith}
use Rattle.std.specs.Prelude.{true, false, nat_eq, if◌then◌else◌}
use Rattle.je_core.specs.declared.types.ClassId.{ClassId}
use Rattle.je_core.specs.Core.{CoreProgram}
use Rattle.je_java.specs.Subclasses.{superclass_of, is_among}

pub among_step : (p : CoreProgram) (n : ℕ) (own class : ClassId) → 0 < n →
    is_among p n (Some own) class ≡ (if nat_eq own.0 class.0 then true else is_among p (n - 1) (superclass_of p own) class)
among_step p zero own class h = absurd (omega arith)
among_step p (suc n) own class h =
    let e : n ≡ suc n - 1 = omega arith in
    ap (λ k. if nat_eq own.0 class.0 then true else is_among p k (superclass_of p own) class) e

pub among_none : (p : CoreProgram) (n : ℕ) (class : ClassId) → is_among p n None class ≡ false
among_none p zero class = refl
among_none p (suc n) class = refl
