use Rattle.fitting_laws.proofs.Creations.{creations_fit}
use Rattle.fitting_laws.proofs.creations_fit.Goals as goal

pub returns : goal.returns
returns c = creations_fit
