use Rattle.std.proofs.Common.{◌≡◌, drop}
use Rattle.flow_base.specs.way.Kept.{first_of}
use Rattle.variable_sets.specs.SetView.{set_view}
use Rattle.assigned_expressions.specs.Reads.{captured_faults}
use Rattle.assigned_expressions.proofs.reads.test_captured.Given as goal

abbrev pub invariant-loop-read : goal.invariant-loop-read
invariant-loop-read l = first_of l.found (captured_faults l.rule (set_view l.before) (drop l.read-index l.reads)) ≡ first_of l.fn.found (captured_faults l.rule (set_view l.before) l.reads)
