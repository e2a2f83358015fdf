use Rattle.fitting_laws.proofs.Qualified.{selects_fit}
use Rattle.fitting_laws.proofs.selects_fit.Goals as goal

pub returns : goal.returns
returns c = selects_fit
