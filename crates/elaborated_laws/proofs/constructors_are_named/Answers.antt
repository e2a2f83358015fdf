use Rattle.elaborated_laws.proofs.Representing.{constructors_named}
use Rattle.elaborated_laws.proofs.constructors_are_named.Goals as goal

pub returns : goal.returns
returns c = constructors_named
