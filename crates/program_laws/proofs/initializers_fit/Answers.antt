use Rattle.program_laws.proofs.Classes.{initializers_fit}
use Rattle.program_laws.proofs.initializers_fit.Goals as goal

pub returns : goal.returns
returns c = initializers_fit
