use Rattle.std.proofs.Common.{◌∙◌}
use Rattle.name_types.proofs.Bases.{variable_base}
use Rattle.name_types.proofs.Views.{rolled_is}
use Rattle.source_subtypes.proofs.substitution.the_variable.Goals as goal

pub returns : goal.returns
returns c = rolled_is _ ∙ variable_base c.args.class c.args.at c.args.dims
