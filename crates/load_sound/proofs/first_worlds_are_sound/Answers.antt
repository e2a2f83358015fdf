use Rattle.load_sound.proofs.Beginnings.{first_worlds_are_sound}
use Rattle.load_sound.proofs.first_worlds_are_sound.Goals as goal

pub returns : goal.returns
returns c = first_worlds_are_sound
