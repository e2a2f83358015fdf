use Rattle.std.proofs.Common.{◌≡◌, ◌++◌, drop, map}
use Rattle.std.specs.Prelude.{flat_map}
use Rattle.je_ast.specs.View.{views_of}
use Rattle.body_typing.specs.Mentions.{all_mentions}
use Rattle.body_typing.specs.Bodies.{met_by}
use Rattle.body_places.specs.View.{program_seen}
use Rattle.core_making.specs.Scopes.{scope_seen}
use Rattle.body_walks.specs.Seen.{met_seen}
use Rattle.body_walks.proofs.walk.+walk.Given as goal

abbrev pub invariant-add_all_met-loop-expr : goal.invariant-add_all_met-loop-expr
invariant-add_all_met-loop-expr l =
    map met_seen l.met.items ++ flat_map (met_by (program_seen l.bodies.calls.program) (scope_seen l.scope))
    (all_mentions (views_of (drop l.expr-index l.exprs)))
    ≡ map met_seen l.initial.met.items ++ flat_map (met_by (program_seen l.bodies.calls.program) (scope_seen l.scope))
    (all_mentions (views_of l.exprs))
