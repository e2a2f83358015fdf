use Rattle.je_sound.proofs.Decided.{worlds_are_decided as decided}
use Rattle.je_sound.proofs.worlds_are_decided.Goals as goal

pub returns : goal.returns
returns c = decided
