use Rattle.std.proofs.Common.{◌≡◌, ◌+◌, ◌≤◌, length, map}
use Rattle.je_ast.specs.Types.{parameter_view}
use Rattle.je_scopes.specs.SourceTypes.{count_of_parameters}
use Rattle.name_types.proofs.counting.count_of_names.Given as goal

abbrev pub invariant-loop-first : goal.invariant-loop-first
invariant-loop-first l = record {
  counts : l.count + count_of_parameters (map parameter_view l.further) ≡ count_of_parameters (map parameter_view l.parameters);
  few : l.count + length l.further ≤ length l.parameters;
}

abbrev pub decreases-loop-first : goal.decreases-loop-first
decreases-loop-first l = length l.further
