use Rattle.place_laws.proofs.Quick.{quick_same}
use Rattle.place_laws.proofs.laws.quick_place_is_same.Goals as goal

pub returns : goal.returns
returns c = quick_same
