use Rattle.je_fitting.proofs.Sound.{sound}
use Rattle.je_fitting.proofs.Complete.{complete}
use Rattle.je_fitting.proofs.expressions_are_decided.Goals as goal

pub returns : goal.returns
returns c = λ p b e. (sound p b e, complete p b e)
