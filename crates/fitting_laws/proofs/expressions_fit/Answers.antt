use Rattle.fitting_laws.proofs.Walk.{expressions_fit}
use Rattle.fitting_laws.proofs.expressions_fit.Goals as goal

pub returns : goal.returns
returns c = expressions_fit
