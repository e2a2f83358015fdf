use Rattle.std.proofs.Common.{◌≡◌, drop}
use Rattle.variable_sets.specs.SetView.{set_view}
use Rattle.definite_assignment.specs.Programs.{final_locals}
use Rattle.definite_assignment.proofs.programs.final_locals.Given as goal

abbrev pub invariant-loop-local : goal.invariant-loop-local
invariant-loop-local l = record {
  place : l.at ≡ l.local-index;
  set : final_locals (drop l.local-index l.locals) l.at (set_view l.rest) ≡ final_locals l.locals 0 (set_view l.fn.set);
}
