use Rattle.unit_laws.proofs.Files.{unit_once}
use Rattle.unit_laws.proofs.laws.unit_is_one.Goals as goal

pub returns : goal.returns
returns c = unit_once
