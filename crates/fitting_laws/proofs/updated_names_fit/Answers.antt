use Rattle.fitting_laws.proofs.Names.{updated_names_fit}
use Rattle.fitting_laws.proofs.updated_names_fit.Goals as goal

pub returns : goal.returns
returns c = updated_names_fit
