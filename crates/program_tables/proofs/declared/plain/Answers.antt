use Rattle.std.proofs.Common.{◌∙◌}
use Rattle.name_types.proofs.Bases.{plain_base}
use Rattle.name_types.proofs.Views.{rolled_is}
use Rattle.program_tables.proofs.declared.plain.Goals as goal

pub returns : goal.returns
returns c = rolled_is _ ∙ plain_base c.args.base c.args.dims
