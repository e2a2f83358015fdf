use Rattle.typing_laws.proofs.Texts.{concatenations_fit}
use Rattle.typing_laws.proofs.concatenations_fit.Goals as goal

pub returns : goal.returns
returns c = concatenations_fit
