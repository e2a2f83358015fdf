use Rattle.elaborated_laws.proofs.Methods.{methods_are_declared}
use Rattle.elaborated_laws.proofs.methods_are_declared.Goals as goal

pub returns : goal.returns
returns c = methods_are_declared
