use Rattle.elaborated_laws.proofs.Representing.{classes_there}
use Rattle.elaborated_laws.proofs.classes_are_there.Goals as goal

pub returns : goal.returns
returns c = classes_there
