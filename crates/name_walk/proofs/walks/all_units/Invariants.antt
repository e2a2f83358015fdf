use Rattle.std.proofs.Common.{◌≡◌, drop, map}
use Rattle.je_ast.specs.View.{unit_view}
use Rattle.je_scopes.specs.Sites.{in_units}
use Rattle.name_walk.specs.Collected.{collected}
use Rattle.name_walk.proofs.walks.all_units.Given as goal

abbrev pub invariant-loop-at : goal.invariant-loop-at
invariant-loop-at l =
    in_units l.at (map unit_view (drop l.at l.units)) (collected l.collector) ≡ in_units 0 (map unit_view l.units) (collected l.initial.collector)
