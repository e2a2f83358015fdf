use Rattle.je_sound.proofs.Statics.{statics_are_typed, texts_are_there}
use Rattle.je_sound.proofs.Worlds.{statics_hold, static_writes_keep}
use Rattle.je_sound.proofs.statics_are_sound.Goals as goal

pub returns : goal.returns
returns c = record { typed = statics_are_typed; holds = statics_hold; kept = static_writes_keep; texts = texts_are_there }
