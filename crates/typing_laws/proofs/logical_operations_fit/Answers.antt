use Rattle.typing_laws.proofs.Unary.{logical_fit}
use Rattle.typing_laws.proofs.logical_operations_fit.Goals as goal

pub returns : goal.returns
returns c = logical_fit
