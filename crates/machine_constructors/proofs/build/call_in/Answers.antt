use Rattle.std.proofs.Common.{sym, ap, ◌∙◌}
use Rattle.je_core.specs.Core.{CoreForm}
use Rattle.je_core.specs.View.{program_view}
use Rattle.je_core.proofs.Views.{form_of_view}
use Rattle.je_java.specs.Constructors.{call_in}
use Rattle.machine_constructors.proofs.build.call_in.Goals as goal

pub returns : goal.returns
returns c = c.in_ok-call.ensures ∙ ap (λ (f : CoreForm). call_in (program_view c.args.program.now) f) (sym (form_of_view c.args.e.now.value))
