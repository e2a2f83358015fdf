use Rattle.std.specs.List.{flat_map}
use Rattle.je_scopes.specs.Faults.{of_class}
use Rattle.name_faults.specs.View.{Adds}
use Rattle.type_faults.specs.Program.{source_in}
use Rattle.name_judge.proofs.Firsts.{guests_below}
use Rattle.name_judge.proofs.judging.judge_classes.Given as goal

abbrev pub invariant-loop-at : goal.invariant-loop-at
invariant-loop-at l = Adds l.initial.faults l.faults (flat_map (of_class (source_in l.program)) (guests_below (source_in l.program) l.at))
