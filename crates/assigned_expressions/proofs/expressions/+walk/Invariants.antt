use Rattle.std.proofs.Common.{◌≡◌, drop}
use Rattle.je_core.specs.Core.{cores}
use Rattle.je_core.specs.View.{views}
use Rattle.flow_base.specs.way.Kept.{first_of}
use Rattle.variable_sets.specs.SetView.{set_view}
use Rattle.assigned_expressions.specs.Expressions.{all_past, all_faults}
use Rattle.assignment_rules.specs.View.{follow_view}
use Rattle.assigned_expressions.proofs.expressions.+walk.Given as goal

-- what is still to come leads to the same
abbrev pub invariant-walk_all-loop-part : goal.invariant-walk_all-loop-part
invariant-walk_all-loop-part l = record {
  after : all_past (follow_view l.follow) (set_view l.past) (cores (views (drop l.part-index l.parts))) ≡ all_past (follow_view l.follow) (set_view l.fn.before) (cores (views l.parts));
  faults : first_of l.found (all_faults (follow_view l.follow) (set_view l.past) (cores (views (drop l.part-index l.parts)))) ≡ first_of l.fn.found (all_faults (follow_view l.follow) (set_view l.fn.before) (cores (views l.parts)));
}
