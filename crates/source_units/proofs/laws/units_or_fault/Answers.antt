use Rattle.source_units.proofs.OneAnswer.{units_or_fault}
use Rattle.source_units.proofs.laws.units_or_fault.Goals as goal

pub returns : goal.returns
returns c = units_or_fault
