use Rattle.fitting_laws.proofs.ArraysMade.{arrays_with_fit}
use Rattle.fitting_laws.proofs.arrays_with_fit.Goals as goal

pub returns : goal.returns
returns c = arrays_with_fit
