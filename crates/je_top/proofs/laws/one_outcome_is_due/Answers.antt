use Rattle.je_top.proofs.OneDue.{one_outcome}
use Rattle.je_top.proofs.laws.one_outcome_is_due.Goals as goal

pub returns : goal.returns
returns c = one_outcome
