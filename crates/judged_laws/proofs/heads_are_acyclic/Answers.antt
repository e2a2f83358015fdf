use Rattle.judged_laws.proofs.Erased.{heads_are_acyclic}
use Rattle.judged_laws.proofs.heads_are_acyclic.Goals as goal

pub returns : goal.returns
returns c = heads_are_acyclic
