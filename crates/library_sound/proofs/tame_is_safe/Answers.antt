use Rattle.library_sound.proofs.Reached.{tame_is_safe}
use Rattle.library_sound.proofs.tame_is_safe.Goals as goal

pub returns : goal.returns
returns c = tame_is_safe c.subtypes_are_decided.ensures
