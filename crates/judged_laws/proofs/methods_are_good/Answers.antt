use Rattle.judged_laws.proofs.Good.{methods_are_good}
use Rattle.judged_laws.proofs.methods_are_good.Goals as goal

pub returns : goal.returns
returns c = methods_are_good
