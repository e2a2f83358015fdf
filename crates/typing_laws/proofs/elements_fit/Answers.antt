use Rattle.typing_laws.proofs.Elements.{elements_fit}
use Rattle.typing_laws.proofs.elements_fit.Goals as goal

pub returns : goal.returns
returns c = elements_fit
