use Rattle.std.proofs.Common.{◌∙◌}
use Rattle.je_core.specs.View.{program_view}
use Rattle.plain_programs.proofs.AboveAlone.{above_alone}
use Rattle.plain_programs.proofs.implementing.implements_plainly_over.Goals as goal

pub returns : goal.returns
returns c = c.implements_plainly_each.ensures ∙ above_alone (program_view c.args.program.now) c.args.id c.args.above.now c.requires
