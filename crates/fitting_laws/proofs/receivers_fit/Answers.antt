use Rattle.fitting_laws.proofs.Calls.{receivers_fit}
use Rattle.fitting_laws.proofs.receivers_fit.Goals as goal

pub returns : goal.returns
returns c = receivers_fit
