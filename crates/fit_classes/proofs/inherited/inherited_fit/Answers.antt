use Rattle.std.proofs.Common.{◌∙◌}
use Rattle.je_core.specs.View.{program_view}
use Rattle.fit_classes.proofs.Inheriting.{inheriting}
use Rattle.fit_classes.proofs.inherited.inherited_fit.Goals as goal

pub returns : goal.returns
returns c = c.in_ok-fit.ensures ∙ inheriting (program_view c.args.program.now) c.args.id c.args.above.now c.requires
