-- A jump, which says again or not, is one step.
use Rattle.std.proofs.Common.{◌≡◌, true, false, refl}
use Rattle.std.specs.Prelude.{Bool, Option}
use Rattle.je_base.specs.declared.span.Span.{Span}
use Rattle.je_ast.specs.declared.name.Identifier.{Identifier}
use Rattle.je_fitting.specs.Statements.{Targets}
use Rattle.je_typing.specs.Judged.{bind, gives}
use Rattle.body_typing.specs.FinalVariables.{Scope}
use Rattle.statement_steps.specs.Jumps.{jump}
use Rattle.body_typing.specs.Bodies.{Progress, one}
use Rattle.statement_forms.specs.declared.walk.Walk.{Walk}
use Rattle.statement_forms.specs.Written.{a_jump, statement_among}

pub jump_is : (w : Walk) (j : Targets) (again : Bool) (word : Span) (to : Option Identifier) (s : Scope) (pr : Progress) →
    statement_among w j s pr (a_jump again word to) ≡ bind (jump j again word to) (λ code. gives (one code s pr))
jump_is w j true word to s pr = refl
jump_is w j false word to s pr = refl
