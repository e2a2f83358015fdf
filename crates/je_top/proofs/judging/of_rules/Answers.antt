use Rattle.je_top.proofs.Judged.{by_breaks}
use Rattle.je_top.proofs.judging.of_rules.Goals as goal

pub returns-in-Ok : goal.returns-in-Ok
returns-in-Ok c = λ files names program rows comes fits broken.
    by_breaks files names program rows c.in-Refused.breaks.items c.in-Ok.found.items comes fits (rw c.in-Refused.is at broken)
    (rw c.deref.ensures.value at c.in-Ok.ensures)
