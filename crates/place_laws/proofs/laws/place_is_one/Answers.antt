use Rattle.place_laws.proofs.Follows.{place_once}
use Rattle.place_laws.proofs.laws.place_is_one.Goals as goal

pub returns : goal.returns
returns c = place_once
