use Rattle.std.proofs.Common.{◌≡◌, map}
use Rattle.je_core.specs.View.{capture_view, program_view}
use Rattle.je_fitting.specs.Expressions.{handed_upwards, handed_over}
use Rattle.je_fitting.specs.way.Deciding.{same_pairs}
use Rattle.fit_parts.specs.way.Handing.{filled}
use Rattle.fit_parts.proofs.captures.are_handed.Given as goal

abbrev pub invariant-loop-left : goal.invariant-loop-left
invariant-loop-left l = same_pairs (filled (map capture_view l.rest)) (handed_upwards (program_view l.program) l.left l.above) ≡ same_pairs (filled (map capture_view l.captures)) (handed_over (program_view l.program) l.fn.class)

abbrev pub decreases-loop-left : goal.decreases-loop-left
decreases-loop-left l = l.left
