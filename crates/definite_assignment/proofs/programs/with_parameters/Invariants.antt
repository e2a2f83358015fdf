use Rattle.std.proofs.Common.{◌≡◌}
use Rattle.variable_sets.specs.SetView.{set_view}
use Rattle.definite_assignment.specs.Programs.{with_parameters}
use Rattle.definite_assignment.proofs.programs.with_parameters.Given as goal

abbrev pub invariant-loop-at : goal.invariant-loop-at
invariant-loop-at l = set_view l.all ≡ with_parameters l.rule l.at (set_view l.fn.set)
