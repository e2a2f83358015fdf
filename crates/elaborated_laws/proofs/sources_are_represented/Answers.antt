use Rattle.elaborated_laws.proofs.Representing.{sources_represented}
use Rattle.elaborated_laws.proofs.sources_are_represented.Goals as goal

pub returns : goal.returns
returns c = sources_represented
