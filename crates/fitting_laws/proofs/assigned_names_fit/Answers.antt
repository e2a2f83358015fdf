use Rattle.fitting_laws.proofs.Names.{assigned_names_fit}
use Rattle.fitting_laws.proofs.assigned_names_fit.Goals as goal

pub returns : goal.returns
returns c = assigned_names_fit
