use Rattle.source_units.proofs.OneAnswer.{units_are_one}
use Rattle.source_units.proofs.laws.units_are_one.Goals as goal

pub returns : goal.returns
returns c = units_are_one
