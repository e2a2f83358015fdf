use Rattle.fitting_laws.proofs.Calls.{calls_on_fit}
use Rattle.fitting_laws.proofs.calls_on_fit.Goals as goal

pub returns : goal.returns
returns c = calls_on_fit
