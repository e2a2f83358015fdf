use Rattle.judged_laws.proofs.Concrete.{methods_are_concrete}
use Rattle.judged_laws.proofs.methods_are_concrete.Goals as goal

pub returns : goal.returns
returns c = methods_are_concrete
