use Rattle.je_ast.specs.Types.{type_view}
use Rattle.je_ast.specs.View.{variable_views_of}
use Rattle.name_types.specs.View.{shown}
use Rattle.body_typing.specs.LocalVariables.{variables}
use Rattle.body_scopes.specs.Extending.{Extends}
use Rattle.body_scopes.specs.View.{scope_seen}
use Rattle.statement_forms.specs.Seen.{done_seen, known_of, program_of, progress_seen}
use Rattle.type_statements.proofs.VariableLists.{variables_left}
use Rattle.type_statements.proofs.declaring.variables.Given as goal

abbrev pub invariant-loop-var : goal.invariant-loop-var
invariant-loop-var l =
    (variables_left l.walk l.declared.is_final l.declared.start (type_view l.declared.written.now) (shown l.declared.ty.now) l.vars
    (variables (program_of l.walk) (known_of l.walk) l.declared.is_final l.declared.start (type_view l.declared.written.now) (shown l.declared.ty.now)
    (scope_seen l.initial.scope) (progress_seen l.initial.progress) (variable_views_of l.vars))
    (done_seen l.done l.scope l.progress) l.var-index)
    × Extends (scope_seen l.initial.scope) (scope_seen l.scope)
