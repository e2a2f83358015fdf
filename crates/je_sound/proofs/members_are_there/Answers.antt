use Rattle.je_sound.proofs.Members.{fields_are_there, calls_are_there}
use Rattle.je_sound.proofs.members_are_there.Goals as goal

pub returns : goal.returns
returns c = record { fields = fields_are_there; methods = calls_are_there }
