use Rattle.override_laws.proofs.Bridging.{inherited_are_implemented}
use Rattle.override_laws.proofs.inherited_are_implemented.Goals as goal

pub returns : goal.returns
returns c = inherited_are_implemented
