use Rattle.std.proofs.Common.{◌∙◌}
use Rattle.je_core.specs.View.{method_view, program_view}
use Rattle.fit_members.proofs.Each.{overriding}
use Rattle.fit_members.proofs.overriding.overrides_fit.Goals as goal

pub returns : goal.returns
returns c = c.in_ok-fit.ensures ∙ overriding (program_view c.args.program.now) c.args.class c.args.above.now (method_view c.args.method.now) c.requires
