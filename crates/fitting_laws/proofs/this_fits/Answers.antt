use Rattle.fitting_laws.proofs.Names.{this_fits}
use Rattle.fitting_laws.proofs.this_fits.Goals as goal

pub returns : goal.returns
returns c = this_fits
