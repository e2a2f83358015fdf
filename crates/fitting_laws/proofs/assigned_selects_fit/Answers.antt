use Rattle.fitting_laws.proofs.Qualified.{assigned_selects_fit}
use Rattle.fitting_laws.proofs.assigned_selects_fit.Goals as goal

pub returns : goal.returns
returns c = assigned_selects_fit
