-- A local of an outer body.
use Rattle.std.proofs.Common.{◌≡◌, ℕ, zero, suc, refl}
use Rattle.je_base.specs.declared.span.Span.{Span}
use Rattle.je_typing.specs.declared.fault.TypeRule.TheVariants.{NotFinalCapture}
use Rattle.je_typing.specs.Judged.{bind, check, gives}
use Rattle.name_typing.specs.Program.{LocalVariable, Place, Program}
use Rattle.name_typing.specs.Variables.{a_local, typed_captured, variable_node}

pub captured_local : (p : Program) (place : Place) (at : Span) (n : ℕ) (v : LocalVariable) → (n ≡ 0 → ⊥) →
    bind (check NotFinalCapture at v.is_final) (λ done. gives (typed_captured p place n v at)) ≡ variable_node p place at (a_local n v)
unfolding variable_node
captured_local p place at zero v e = absurd (e refl)
captured_local p place at (suc n) v e = refl
