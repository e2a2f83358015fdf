use Rattle.library_sound.proofs.Reached.{others_are_tame}
use Rattle.library_sound.proofs.others_are_tame.Goals as goal

pub returns : goal.returns
returns c = others_are_tame c.subtypes_are_decided.ensures
