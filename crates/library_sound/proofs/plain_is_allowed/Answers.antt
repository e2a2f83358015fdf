use Rattle.library_sound.proofs.Allowed.{plain_is_allowed}
use Rattle.library_sound.proofs.plain_is_allowed.Goals as goal

pub returns : goal.returns
returns c = plain_is_allowed
