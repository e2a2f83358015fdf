use Rattle.std.proofs.Common.{◌≡◌, drop, map}
use Rattle.captured_reads.specs.View.{standing_view}
use Rattle.flow_base.specs.way.Kept.{first_of}
use Rattle.variable_sets.specs.SetView.{set_view}
use Rattle.assigned_expressions.specs.Reads.{standing_faults}
use Rattle.assigned_expressions.proofs.reads.test_standing.Given as goal

abbrev pub invariant-loop-class : goal.invariant-loop-class
invariant-loop-class l = first_of l.found (standing_faults l.follow.rule l.site (set_view l.before) (map standing_view (drop l.class-index l.follow.standing.items))) ≡ first_of l.fn.found (standing_faults l.follow.rule l.site (set_view l.before) (map standing_view l.follow.standing.items))
