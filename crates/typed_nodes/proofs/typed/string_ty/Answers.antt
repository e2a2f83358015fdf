use Rattle.std.proofs.Common.{ap, ◌∙◌}
use Rattle.je_core.specs.declared.types.Ty.{Ty}
use Rattle.name_types.specs.declared.types.SrcBase.TheVariants.{Plain}
use Rattle.name_types.specs.View.{base_shown}
use Rattle.name_types.proofs.Views.{rolled_is}
use Rattle.typed_nodes.proofs.Plain.{shown_string}
use Rattle.typed_nodes.proofs.typed.string_ty.Goals as goal

pub returns : goal.returns
returns c = rolled_is _ ∙ ap (λ (t : Ty). base_shown (Plain t.base) 0) c.string.ensures ∙ shown_string
