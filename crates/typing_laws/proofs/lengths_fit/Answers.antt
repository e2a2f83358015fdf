use Rattle.typing_laws.proofs.Elements.{lengths_fit}
use Rattle.typing_laws.proofs.lengths_fit.Goals as goal

pub returns : goal.returns
returns c = lengths_fit
