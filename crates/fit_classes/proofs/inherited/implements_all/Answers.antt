use Rattle.std.proofs.Common.{◌∙◌}
use Rattle.je_core.specs.View.{program_view}
use Rattle.fit_classes.proofs.Inheriting.{implementing}
use Rattle.fit_classes.proofs.inherited.implements_all.Goals as goal

pub returns : goal.returns
returns c = c.has_methods_of_all.ensures ∙ implementing (program_view c.args.program.now) c.args.id c.args.above.now c.requires
