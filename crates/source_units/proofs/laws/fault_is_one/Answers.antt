use Rattle.source_units.proofs.OneAnswer.{fault_is_one}
use Rattle.source_units.proofs.laws.fault_is_one.Goals as goal

pub returns : goal.returns
returns c = fault_is_one
