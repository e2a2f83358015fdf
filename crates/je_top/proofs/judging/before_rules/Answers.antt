use Rattle.je_top.proofs.Judged.{by_first}
use Rattle.je_top.proofs.judging.before_rules.Goals as goal

pub returns-in-Ok : goal.returns-in-Ok
returns-in-Ok c = λ files rows first. by_first files rows c.in-Found.finding c.in-Ok.found.items (rw c.in-Found.is at first) c.in-Ok.ensures.items
