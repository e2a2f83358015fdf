-- A local of a body further out.
use Rattle.std.proofs.Common.{◌≡◌, ℕ, zero, suc, [], ◌∷◌, refl}
use Rattle.std.specs.Prelude.{is_none, if◌then◌else◌}
use Rattle.name_typing.specs.Program.{LocalVariable, Program, frames}
use Rattle.name_typing.specs.Variables.{a_local, class_of_frame}
use Rattle.body_typing.specs.FinalVariables.{Scope}
use Rattle.body_typing.specs.Bodies.{captures, local_met}

pub further : (p : Program) (s : Scope) (n : ℕ) (v : LocalVariable) → (n ≡ 0 → ⊥) →
    local_met p s (a_local n v) ≡ (if is_none v.constant
    then captures s.place.here.class (class_of_frame (frames s.place) n) v.number ∷ [] else [])
further p s zero v e = absurd (e refl)
further p s (suc n) v e = refl
