use Rattle.je_sound.proofs.Dispatched.{calls_are_dispatched}
use Rattle.je_sound.proofs.Inherited.{fields_are_inherited}
use Rattle.je_sound.proofs.members_are_inherited.Goals as goal

pub returns : goal.returns
returns c = record { methods = calls_are_dispatched; fields = fields_are_inherited }
