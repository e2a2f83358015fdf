use Rattle.name_types.proofs.Views.{rolled_is}
use Rattle.operator_steps.proofs.making.innermost.Goals as goal

pub returns-clause-shown : goal.returns-clause-shown
returns-clause-shown c = rolled_is _
