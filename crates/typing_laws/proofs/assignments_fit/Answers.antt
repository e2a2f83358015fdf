use Rattle.typing_laws.proofs.Assignments.{assignments_fit}
use Rattle.typing_laws.proofs.assignments_fit.Goals as goal

pub returns : goal.returns
returns c = assignments_fit
