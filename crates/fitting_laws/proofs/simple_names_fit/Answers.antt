use Rattle.fitting_laws.proofs.Names.{simple_names_fit}
use Rattle.fitting_laws.proofs.simple_names_fit.Goals as goal

pub returns : goal.returns
returns c = simple_names_fit
