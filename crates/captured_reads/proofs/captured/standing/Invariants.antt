use Rattle.std.proofs.Common.{◌≡◌, ◌++◌, drop, map}
use Rattle.std.specs.List.{flat_map}
use Rattle.captured_reads.specs.Standing.{standing_at}
use Rattle.captured_reads.specs.View.{met_view, standing_view}
use Rattle.captured_reads.specs.NestingView.{program_of}
use Rattle.captured_reads.proofs.captured.standing.Given as goal

abbrev pub invariant-loop-met : goal.invariant-loop-met
invariant-loop-met l = map standing_view l.all.items ++ flat_map (standing_at (program_of l.nesting)) (map met_view (drop l.met-index l.met-items)) ≡ flat_map (standing_at (program_of l.nesting)) (map met_view l.met-items)
