use Rattle.std.proofs.Common.{◌∙◌}
use Rattle.name_types.proofs.Views.{rolled_is}
use Rattle.library_declarations.proofs.types.row_type.Goals as goal

pub returns : goal.returns
returns c = rolled_is _ ∙ c.row_base.ensures c.args.ty.dims
