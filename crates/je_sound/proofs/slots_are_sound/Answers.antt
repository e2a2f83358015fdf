use Rattle.je_sound.proofs.Worlds.{slots_hold, writes_keep, units_keep}
use Rattle.je_sound.proofs.slots_are_sound.Goals as goal

pub returns : goal.returns
returns c = record { holds = slots_hold; kept = writes_keep; units = units_keep }
