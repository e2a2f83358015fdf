use Rattle.fitting_laws.proofs.Qualified.{members_fit}
use Rattle.fitting_laws.proofs.members_fit.Goals as goal

pub returns : goal.returns
returns c = members_fit
