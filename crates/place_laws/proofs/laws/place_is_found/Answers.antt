use Rattle.place_laws.proofs.Follows.{place_found}
use Rattle.place_laws.proofs.laws.place_is_found.Goals as goal

pub returns : goal.returns
returns c = place_found
