use Rattle.std.proofs.Common.{◌∙◌}
use Rattle.name_types.proofs.Views.{rolled_is}
use Rattle.typed_nodes.proofs.Plain.{shown_primitive}
use Rattle.typed_nodes.proofs.typed.primitive_ty.Goals as goal

pub returns : goal.returns
returns c = rolled_is _ ∙ shown_primitive c.args.base c.requires
