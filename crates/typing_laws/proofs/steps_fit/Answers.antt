use Rattle.typing_laws.proofs.Assignments.{steps_fit}
use Rattle.typing_laws.proofs.steps_fit.Goals as goal

pub returns : goal.returns
returns c = steps_fit
