use Rattle.std.proofs.Common.{◌≡◌, drop}
use Rattle.je_core.specs.View.{program_view, views}
use Rattle.captured_reads.specs.Walks as the
use Rattle.captured_reads.specs.View.{walk_view}
use Rattle.captured_reads.proofs.statements.past_each.Given as goal

abbrev pub invariant-loop-part : goal.invariant-loop-part
invariant-loop-part l = the.past_each (program_view l.around.program.now) l.around.locals.now (walk_view l.walk) (views (drop l.part-index l.parts)) ≡ the.past_each (program_view l.around.program.now) l.around.locals.now (walk_view l.fn.walk) (views l.parts)
