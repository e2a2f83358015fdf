use Rattle.knot_laws.proofs.Knots.{at_is_below}
use Rattle.knot_laws.proofs.laws.all_is_read.Goals as goal

pub returns : goal.returns
returns c = at_is_below
