use Rattle.typing_laws.proofs.Unary.{unary_fit}
use Rattle.typing_laws.proofs.unary_operations_fit.Goals as goal

pub returns : goal.returns
returns c = unary_fit
