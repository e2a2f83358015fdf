use Rattle.body_laws.proofs.Walk.{bodies_fit}
use Rattle.body_laws.proofs.bodies_fit.Goals as goal

pub returns : goal.returns
returns c = bodies_fit
