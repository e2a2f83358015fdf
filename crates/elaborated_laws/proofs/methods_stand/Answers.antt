use Rattle.elaborated_laws.proofs.Methods.{methods_stand}
use Rattle.elaborated_laws.proofs.methods_stand.Goals as goal

pub returns : goal.returns
returns c = methods_stand
