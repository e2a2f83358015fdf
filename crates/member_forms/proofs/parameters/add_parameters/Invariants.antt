use Rattle.std.proofs.Common.{◌≡◌, drop, map}
use Rattle.je_ast.specs.Types.{formal_view}
use Rattle.name_types.specs.View.{shown}
use Rattle.body_scopes.specs.View.{scope_seen}
use Rattle.statement_forms.specs.Seen.{progress_seen}
use Rattle.member_forms.specs.Walks.{parameters}
use Rattle.member_forms.proofs.parameters.add_parameters.Given as goal

abbrev pub invariant-loop-formal : goal.invariant-loop-formal
invariant-loop-formal l =
    parameters l.walk (scope_seen l.initial.scope) (progress_seen l.initial.progress) (map formal_view l.formals) (map shown l.initial.left)
    ≡ parameters l.walk (scope_seen l.scope) (progress_seen l.progress) (map formal_view (drop l.formal-index l.formals)) (map shown l.left)
