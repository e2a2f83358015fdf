use Rattle.std.proofs.Common.{◌≡◌, drop, map}
use Rattle.je_ast.specs.Types.{parameter_view}
use Rattle.je_scopes.specs.Scope.{place_of_parameter}
use Rattle.name_sites.proofs.header.parameter_place.Given as goal

abbrev pub invariant-loop-at : goal.invariant-loop-at
invariant-loop-at l = place_of_parameter l.at (map parameter_view (drop l.at l.parameters)) l.name ≡ place_of_parameter 0 (map parameter_view l.parameters) l.name
