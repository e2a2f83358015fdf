use Rattle.fitting_laws.proofs.ArraysMade.{new_arrays_fit}
use Rattle.fitting_laws.proofs.new_arrays_fit.Goals as goal

pub returns : goal.returns
returns c = new_arrays_fit
