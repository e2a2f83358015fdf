use Rattle.std.proofs.Common.{◌∙◌}
use Rattle.name_types.proofs.Bases.{plain_base}
use Rattle.name_types.proofs.Views.{rolled_is}
use Rattle.class_methods.proofs.Types.{plain_unbounded}
use Rattle.class_methods.proofs.erasures.unbounded.Goals as goal

pub returns : goal.returns
returns c = rolled_is _ ∙ plain_base c.args.ty.base c.args.ty.dims ∙ plain_unbounded c.args.ty.base c.args.ty.dims
