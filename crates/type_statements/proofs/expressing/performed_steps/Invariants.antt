use Rattle.je_ast.specs.View.{views_of}
use Rattle.body_typing.specs.Statements.{performed_steps}
use Rattle.body_scopes.specs.View.{scope_seen}
use Rattle.statement_forms.specs.Seen.{done_in, known_of, program_of, progress_seen, returning_of}
use Rattle.type_statements.proofs.StepLists.{performed_left}
use Rattle.type_statements.proofs.expressing.performed_steps.Given as goal

abbrev pub invariant-loop-expr : goal.invariant-loop-expr
invariant-loop-expr l =
    performed_left l.walk (scope_seen l.scope) l.list
    (performed_steps (program_of l.walk) (known_of l.walk) (returning_of l.walk) (scope_seen l.scope) (progress_seen l.initial.progress) (views_of l.list))
    (done_in l.done (scope_seen l.scope) (progress_seen l.progress)) l.expr-index
