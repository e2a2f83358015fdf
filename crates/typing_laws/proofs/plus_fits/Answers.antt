use Rattle.typing_laws.proofs.Unary.{plus_fits}
use Rattle.typing_laws.proofs.plus_fits.Goals as goal

pub returns : goal.returns
returns c = plus_fits
