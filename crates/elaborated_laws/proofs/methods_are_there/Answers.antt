use Rattle.elaborated_laws.proofs.Representing.{methods_there}
use Rattle.elaborated_laws.proofs.methods_are_there.Goals as goal

pub returns : goal.returns
returns c = methods_there
