use Rattle.std.proofs.Common.{◌∙◌}
use Rattle.je_types.specs.Views.{program_of}
use Rattle.taming_db.specs.View.{rows}
use Rattle.class_uses.proofs.AboveAlone.{above_alone}
use Rattle.class_uses.proofs.implemented.implements_above.Goals as goal

pub returns : goal.returns
returns c = c.implements_each.ensures ∙ above_alone (program_of c.args.typed.now) (rows c.args.taming.now) c.args.id c.args.above.now c.requires
