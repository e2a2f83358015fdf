use Rattle.typing_laws.proofs.Choices.{choices_fit}
use Rattle.typing_laws.proofs.choices_fit.Goals as goal

pub returns : goal.returns
returns c = choices_fit
