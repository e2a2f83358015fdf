use Rattle.je_core.specs.View.{program_view}
use Rattle.je_interp.specs.Finish.{GoesOnAs, rest}
use Rattle.je_interp.proofs.machine.Machine.try_run.Given as goal

abbrev pub invariant-loop-next : goal.invariant-loop-next
invariant-loop-next l = GoesOnAs (program_view l.program) l.initial.self l.initial.heap l.self l.heap

abbrev pub decreases-loop-next : goal.decreases-loop-next
decreases-loop-next l = rest l.self
