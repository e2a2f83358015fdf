use Rattle.je_sound.proofs.CallsDecided.{calls_are_decided as are_decided}
use Rattle.je_sound.proofs.calls_are_decided.Goals as goal

pub returns : goal.returns
returns c = are_decided
