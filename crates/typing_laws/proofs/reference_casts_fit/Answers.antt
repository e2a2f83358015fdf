use Rattle.typing_laws.proofs.References.{reference_casts_fit}
use Rattle.typing_laws.proofs.reference_casts_fit.Goals as goal

pub returns : goal.returns
returns c = reference_casts_fit
