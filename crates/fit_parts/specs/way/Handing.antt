-- What is handed over to the fields of one class, and one step of a path.
use Rattle.std.specs.Prelude.{ℕ, suc, Bool, true, ◌&&◌, List, [], ◌∷◌, map, Option, None, if◌then◌else◌}
use Rattle.je_core.specs.declared.types.ClassId.{ClassId}
use Rattle.je_core.specs.declared.types.Ty.{Ty}
use Rattle.je_core.specs.Core.{CoreCapture, CoreProgram}
use Rattle.je_fitting.specs.Expressions.{field_at}
use Rattle.je_fitting.specs.way.Deciding.{same_pair, is_step_on, field_type}

-- the fields that captures fill
abbrev pub filled : List CoreCapture → List (ClassId × ℕ)
filled captures = map (λ (c : CoreCapture). (c.class, c.field)) captures

-- whether they fill the fields of a class from a place on
abbrev pub are_own : ClassId → ℕ → List CoreCapture → Bool
are_own class n [] = true
are_own class n (c ∷ cs) = same_pair (c.class, c.field) (class, n) && are_own class (suc n) cs

abbrev pub next_type : CoreProgram → Ty → ClassId × ℕ → Option Ty
next_type program t p = if is_step_on program t p.0 (field_at program p.0 p.1) then field_type (field_at program p.0 p.1) else None
