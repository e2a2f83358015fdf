use Rattle.je_sound.proofs.Worlds.{fits_on, fits_over_writes, fits_over_units}
use Rattle.je_sound.proofs.values_fit_on.Goals as goal

pub returns : goal.returns
returns c = record { made = fits_on; written = fits_over_writes; units = fits_over_units }
