use Rattle.std.proofs.Common.{◌≡◌, map, take}
use Rattle.je_ast.specs.Types.{parameter_view}
use Rattle.type_faults.specs.Program.{source_in}
use Rattle.name_judge.specs.way.Bounds.{bound_variables}
use Rattle.name_judge.proofs.bounds.bound_variables.Given as goal

abbrev pub invariant-loop-parameter : goal.invariant-loop-parameter
invariant-loop-parameter l = l.next.items ≡ bound_variables (source_in l.program) l.class.0 (map parameter_view (take l.parameter-index l.parameters))
