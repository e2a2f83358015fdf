use Rattle.fitting_laws.proofs.Calls.{super_calls_fit}
use Rattle.fitting_laws.proofs.super_calls_fit.Goals as goal

pub returns : goal.returns
returns c = super_calls_fit
