use Rattle.program_laws.proofs.Methods.{methods_fit}
use Rattle.program_laws.proofs.methods_fit.Goals as goal

pub returns : goal.returns
returns c = methods_fit
