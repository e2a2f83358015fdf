use Rattle.fitting_laws.proofs.Names.{outer_this_fits}
use Rattle.fitting_laws.proofs.outer_this_fits.Goals as goal

pub returns : goal.returns
returns c = outer_this_fits
