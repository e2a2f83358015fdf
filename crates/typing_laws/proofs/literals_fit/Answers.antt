use Rattle.typing_laws.proofs.Literals.{literals_fit}
use Rattle.typing_laws.proofs.literals_fit.Goals as goal

pub returns : goal.returns
returns c = literals_fit
