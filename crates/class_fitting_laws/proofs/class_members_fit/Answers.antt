use Rattle.class_fitting_laws.proofs.Unwritten.{class_members_fit}
use Rattle.class_fitting_laws.proofs.class_members_fit.Goals as goal

pub returns : goal.returns
returns c = class_members_fit
