use Rattle.std.proofs.Common.{sym, ap, ◌∙◌}
use Rattle.typed_nodes.specs.way.Plain.{plain_of}
use Rattle.typed_nodes.proofs.Plain.{plain_shape}
use Rattle.typed_nodes.proofs.types.plain_in.Goals as goal

pub returns-in-Plain : goal.returns-in-Plain
returns-in-Plain c = c.unless_class.ensures ∙ ap plain_of (sym (plain_shape c.args.base.now c.in-Plain.plain 0 c.in-Plain.is))
