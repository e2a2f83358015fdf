use Rattle.typing_laws.proofs.Assignments.{updates_fit}
use Rattle.typing_laws.proofs.updates_fit.Goals as goal

pub returns : goal.returns
returns c = updates_fit
