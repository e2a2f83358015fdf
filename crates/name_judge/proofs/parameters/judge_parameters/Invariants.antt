use Rattle.std.proofs.Common.{drop, map, take}
use Rattle.je_ast.specs.Types.{parameter_view}
use Rattle.je_scopes.specs.Faults.{of_parameters_from}
use Rattle.name_faults.proofs.Left.{Left}
use Rattle.type_faults.specs.Program.{source_in}
use Rattle.name_judge.proofs.ParameterSteps.{NamesMet}
use Rattle.name_judge.proofs.parameters.judge_parameters.Given as goal

abbrev pub invariant-loop-at : goal.invariant-loop-at
invariant-loop-at l = record {
  met : NamesMet l.met (map parameter_view (take l.at l.parameters));
  left : Left l.initial.faults l.faults
      (of_parameters_from (source_in l.program) l.class.0 (map parameter_view l.parameters) l.at (map parameter_view (drop l.at l.parameters)))
      (of_parameters_from (source_in l.program) l.class.0 (map parameter_view l.parameters) 0 (map parameter_view l.parameters));
}
