-- A type with dimensions is a reference.
use Rattle.std.proofs.Common.{◌≡◌, ◌≢◌, ℕ, zero, suc, refl, arith}
use Rattle.std.specs.Prelude.{true}
use Rattle.je_core.specs.declared.types.Base.{Base}
use Rattle.je_classes.specs.Subtypes.{is_reference_base, is_reference_of}

pub no_dimensions : (b : Base) (n : ℕ) → n ≡ 0 → is_reference_of b n ≡ is_reference_base b
no_dimensions b zero e = refl
no_dimensions b (suc n) e = absurd (omega arith)

pub some_dimensions : (b : Base) (n : ℕ) → n ≢ 0 → is_reference_of b n ≡ true
some_dimensions b zero e = absurd (e refl)
some_dimensions b (suc n) e = refl

pub ruleset dimensions = (no_dimensions, some_dimensions)
