use Rattle.eval_sound.proofs.Calls.{loads_are_safe}
use Rattle.eval_sound.proofs.loads_are_safe.Goals as goal

pub returns : goal.returns
returns c = loads_are_safe c.subtypes_are_decided.ensures
