use Rattle.fitting_laws.proofs.Qualified.{selects_before_fit}
use Rattle.fitting_laws.proofs.selects_before_fit.Goals as goal

pub returns : goal.returns
returns c = selects_before_fit
