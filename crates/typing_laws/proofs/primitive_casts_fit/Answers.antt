use Rattle.typing_laws.proofs.Casts.{casts_fit}
use Rattle.typing_laws.proofs.primitive_casts_fit.Goals as goal

pub returns : goal.returns
returns c = casts_fit
