use Rattle.fitting_laws.proofs.Qualified.{names_before_fit}
use Rattle.fitting_laws.proofs.names_before_fit.Goals as goal

pub returns : goal.returns
returns c = names_before_fit
