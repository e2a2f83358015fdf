use Rattle.std.proofs.Common.{sym, ◌∙◌}
use Rattle.source_subtypes.specs.View.{heads_of}
use Rattle.source_subtypes.proofs.Deciding.{no-reference}
use Rattle.source_subtypes.proofs.subtypes.is_element_below.Goals as goal

pub returns-else-is_reference : goal.returns-else-is_reference
returns-else-is_reference c =
    no-reference (heads_of c.args.heads.now) c.args.ty.now c.args.other.now c.requires.flat (sym c.is_reference.ensures ∙ c.if-is_reference.false)
