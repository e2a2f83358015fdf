use Rattle.std.proofs.Common.{◌≡◌, drop}
use Rattle.je_ast.specs.View.{variable_views_of}
use Rattle.member_forms.specs.Seen.{members_seen}
use Rattle.type_decl.specs.way.Walks.{variables}
use Rattle.type_decl.proofs.Following.{behind}
use Rattle.type_decl.proofs.fields.variables.Given as goal

abbrev pub invariant-loop-var : goal.invariant-loop-var
invariant-loop-var l =
    behind (members_seen l.done) (variables l.walk l.at (variable_views_of (drop l.var-index l.vars)))
    ≡ variables l.walk l.initial.at (variable_views_of l.vars)
