use Rattle.fitting_laws.proofs.Calls.{simple_calls_fit}
use Rattle.fitting_laws.proofs.simple_calls_fit.Goals as goal

pub returns : goal.returns
returns c = simple_calls_fit
