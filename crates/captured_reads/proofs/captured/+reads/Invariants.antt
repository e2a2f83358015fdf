use Rattle.std.proofs.Common.{◌≡◌, ◌++◌, ◌+◌, ◌*◌, drop, map}
use Rattle.std.specs.List.{flat_map}
use Rattle.je_core.specs.View.{class_view}
use Rattle.captured_reads.specs.Standing as the
use Rattle.captured_reads.specs.View.{met_view}
use Rattle.captured_reads.specs.NestingView.{program_of}
use Rattle.captured_reads.proofs.captured.+reads.Given as goal

abbrev pub decreases-add_reads : goal.decreases-add_reads
decreases-add_reads l = 4 * l.depth

abbrev pub decreases-add_one : goal.decreases-add_one
decreases-add_one l = 4 * l.depth + 1

abbrev pub decreases-add_met : goal.decreases-add_met
decreases-add_met l = 4 * l.depth + 2

abbrev pub decreases-add_class : goal.decreases-add_class
decreases-add_class l = 4 * l.depth + 3

abbrev pub decreases-add_members : goal.decreases-add_members
decreases-add_members l = 4 * l.depth + 1

abbrev pub invariant-add_members-loop-member : goal.invariant-add_members-loop-member
invariant-add_members-loop-member l = l.reads.items ++ flat_map (the.reads_within (program_of l.nesting) l.depth l.names) (drop l.member-index l.members) ≡ l.fn.reads.items ++ flat_map (the.reads_within (program_of l.nesting) l.depth l.names) l.members

abbrev pub invariant-add_met-loop-one : goal.invariant-add_met-loop-one
invariant-add_met-loop-one l = l.reads.items ++ flat_map (the.reads_at (the.reads_within (program_of l.nesting) l.depth) l.names l.id (class_view l.class)) (map met_view (drop l.one-index l.met)) ≡ l.fn.reads.items ++ flat_map (the.reads_at (the.reads_within (program_of l.nesting) l.depth) l.names l.id (class_view l.class)) (map met_view l.met)
