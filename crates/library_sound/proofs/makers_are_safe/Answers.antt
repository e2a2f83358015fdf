use Rattle.library_sound.proofs.Members.{makers_are_safe}
use Rattle.library_sound.proofs.makers_are_safe.Goals as goal

pub returns : goal.returns
returns c = makers_are_safe c.subtypes_are_decided.ensures
