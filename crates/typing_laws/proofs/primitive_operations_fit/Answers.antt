use Rattle.typing_laws.proofs.Operators.{operations_fit}
use Rattle.typing_laws.proofs.primitive_operations_fit.Goals as goal

pub returns : goal.returns
returns c = operations_fit
