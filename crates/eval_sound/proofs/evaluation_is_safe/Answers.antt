use Rattle.eval_sound.proofs.Evaluation.{evaluation_is_safe}
use Rattle.eval_sound.proofs.evaluation_is_safe.Goals as goal

pub returns : goal.returns
returns c = evaluation_is_safe c.subtypes_are_decided.ensures
