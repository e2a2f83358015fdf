use Rattle.std.proofs.Common.{◌∙◌}
use Rattle.name_types.proofs.Bases.{variable_base}
use Rattle.name_types.proofs.Views.{rolled_is}
use Rattle.header_steps.proofs.supers.variable.Goals as goal

pub returns : goal.returns
returns c = rolled_is _ ∙ variable_base c.args.class c.args.at 0
