use Rattle.override_laws.proofs.Overridden.{methods_override_well}
use Rattle.override_laws.proofs.methods_override_well.Goals as goal

pub returns : goal.returns
returns c = methods_override_well
