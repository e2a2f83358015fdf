use Rattle.std.proofs.Common.{◌≡◌, drop}
use Rattle.je_core.specs.Core.{cores}
use Rattle.je_core.specs.View.{program_view, views}
use Rattle.captured_reads.specs.Walks as the
use Rattle.captured_reads.specs.View.{walk_view}
use Rattle.captured_reads.proofs.expressions.+expressions.Given as goal

abbrev pub invariant-past_all-loop-part : goal.invariant-past_all-loop-part
invariant-past_all-loop-part l = the.past_all (program_view l.around.program.now) l.around.locals.now (walk_view l.walk) (cores (views (drop l.part-index l.parts))) ≡ the.past_all (program_view l.around.program.now) l.around.locals.now (walk_view l.fn.walk) (cores (views l.parts))
