use Rattle.typing_laws.proofs.References.{reference_equalities_fit}
use Rattle.typing_laws.proofs.reference_equalities_fit.Goals as goal

pub returns : goal.returns
returns c = reference_equalities_fit
