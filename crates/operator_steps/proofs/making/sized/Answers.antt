use Rattle.std.proofs.Common.{sym, ◌∙◌}
use Rattle.name_types.proofs.Views.{rolled_is}
use Rattle.operator_steps.proofs.Dimensions.{added_dims}
use Rattle.operator_steps.proofs.making.sized.Goals as goal

pub returns-clause-shown : goal.returns-clause-shown
returns-clause-shown c = rolled_is _ ∙ sym (added_dims c.args.base c.args.dims)
