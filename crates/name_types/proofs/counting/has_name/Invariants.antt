use Rattle.std.proofs.Common.{◌≡◌, drop, map}
use Rattle.je_ast.specs.Types.{parameter_view}
use Rattle.je_scopes.specs.SourceTypes.{has_parameter}
use Rattle.name_types.proofs.counting.has_name.Given as goal

abbrev pub invariant-loop-parameter : goal.invariant-loop-parameter
invariant-loop-parameter l = has_parameter l.name (map parameter_view (drop l.parameter-index l.parameters)) ≡ has_parameter l.name (map parameter_view l.parameters)
