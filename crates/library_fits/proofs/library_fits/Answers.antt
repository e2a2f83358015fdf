use Rattle.library_fits.proofs.Fits.{library_fits}
use Rattle.library_fits.proofs.library_fits.Goals as goal

pub returns : goal.returns
returns c = library_fits c.subtypes_are_decided.ensures
