use Rattle.eval_sound.proofs.Calls.{calls_are_safe, ends_are_not_wrong}
use Rattle.eval_sound.proofs.calls_are_safe.Goals as goal

pub returns : goal.returns
returns c = record { end = calls_are_safe c.subtypes_are_decided.ensures; not_wrong = ends_are_not_wrong }
