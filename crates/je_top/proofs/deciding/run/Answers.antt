-- What the file comes to is due.
use Rattle.je_top.proofs.RunLemmas.{run_is_due}
use Rattle.je_top.proofs.deciding.run.Goals as goal

pub returns-clause-due : goal.returns-clause-due
returns-clause-due g c = run_is_due _ _ _ _ _ c.in_ok-bytes.ensures.whole c.deref.ensures c.in_ok-ran.ensures
