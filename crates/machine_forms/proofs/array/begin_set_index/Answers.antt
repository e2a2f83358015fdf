use Rattle.std.proofs.Common.{ap}
use Rattle.je_core.specs.View.{view}
use Rattle.je_java.specs.Steps.{bind}
use Rattle.machine_parts.specs.Ways.{waits, valued}
use Rattle.machine_forms.proofs.array.begin_set_index.Goals as goal

pub returns-clause-goes : goal.returns-clause-goes
unfolding bind
returns-clause-goes c = λ p m k s. ap (λ fs. valued (m.eval (view c.args.index.value)) (waits p m k fs) s) c.in_ok-push.ensures.ok
