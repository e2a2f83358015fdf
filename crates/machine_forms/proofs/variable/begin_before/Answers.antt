use Rattle.std.proofs.Common.{◌≡◌, ap, ◌∙◌}
use Rattle.je_core.specs.View.{view}
use Rattle.je_java.specs.Steps.{seq, read_static}
use Rattle.machine_parts.specs.Ways.{waits, valued}
use Rattle.machine_forms.proofs.variable.begin_before.Goals as goal

pub returns-clause-goes : goal.returns-clause-goes
unfolding seq
returns-clause-goes c = λ p m k s.
    let object : c.in_ok-clone.field-0.value ≡ c.args.object.now.value = cc (c.in_ok-clone.ensures.cases) in
    ap (λ fs. valued (m.eval (view c.in_ok-clone.field-0.value)) (waits p m k fs) s) c.in_ok-push.ensures.ok
    ∙ (λ i. valued (seq (m.eval (view (object i))) (read_static p c.args.class c.args.field)) (waits p m k c.args.frames.now) s)
