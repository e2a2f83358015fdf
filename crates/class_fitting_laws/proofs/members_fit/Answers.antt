use Rattle.class_fitting_laws.proofs.Members.{members_fit}
use Rattle.class_fitting_laws.proofs.members_fit.Goals as goal

pub returns : goal.returns
returns c = members_fit
