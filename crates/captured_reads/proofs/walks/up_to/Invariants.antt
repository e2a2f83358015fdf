use Rattle.std.proofs.Common.{◌≡◌, length}
use Rattle.je_core.specs.View.{program_view}
use Rattle.captured_reads.specs.Walks as the
use Rattle.captured_reads.specs.View.{walk_view}
use Rattle.captured_reads.proofs.walks.up_to.Given as goal

abbrev pub invariant-loop-class : goal.invariant-loop-class
invariant-loop-class l = the.up_to (program_view l.around.program.now) l.around.locals.now l.home l.end (walk_view l.walk) ≡ the.up_to (program_view l.around.program.now) l.around.locals.now l.home l.end (walk_view l.fn.walk)

abbrev pub decreases-loop-class : goal.decreases-loop-class
decreases-loop-class l = length l.walk.ahead.now
