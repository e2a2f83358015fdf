use Rattle.fitting_laws.proofs.Creations.{anonymous_creations_fit}
use Rattle.fitting_laws.proofs.anonymous_creations_fit.Goals as goal

pub returns : goal.returns
returns c = anonymous_creations_fit
