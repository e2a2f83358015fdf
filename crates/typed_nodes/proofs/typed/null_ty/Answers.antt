use Rattle.std.proofs.Common.{◌∙◌}
use Rattle.name_types.proofs.Views.{rolled_is}
use Rattle.typed_nodes.proofs.Plain.{shown_null}
use Rattle.typed_nodes.proofs.typed.null_ty.Goals as goal

pub returns : goal.returns
returns c = rolled_is _ ∙ shown_null
