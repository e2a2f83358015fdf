use Rattle.je_sound.proofs.Values.{fits_above, defaults_fit}
use Rattle.je_sound.proofs.values_fit.Goals as goal

pub returns-clause-above : goal.returns-clause-above
returns-clause-above c = fits_above c.subtypes_are_decided.ensures

pub returns-clause-defaults : goal.returns-clause-defaults
returns-clause-defaults c = defaults_fit
