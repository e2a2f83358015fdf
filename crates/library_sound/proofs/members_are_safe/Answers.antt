use Rattle.library_sound.proofs.Members.{members_are_safe}
use Rattle.library_sound.proofs.members_are_safe.Goals as goal

pub returns : goal.returns
returns c = members_are_safe c.subtypes_are_decided.ensures
