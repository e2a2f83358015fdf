use Rattle.program_laws.proofs.Classes.{classes_fit}
use Rattle.program_laws.proofs.classes_fit.Goals as goal

pub returns : goal.returns
returns c = classes_fit
