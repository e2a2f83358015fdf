use Rattle.std.proofs.Common.{◌≡◌, ap, ◌∙◌}
use Rattle.je_core.specs.View.{view}
use Rattle.je_java.specs.Steps.{bind}
use Rattle.je_java.specs.Meaning.{set_element}
use Rattle.machine_parts.specs.Ways.{waits, valued}
use Rattle.machine_forms.proofs.array.begin_set_array.Goals as goal

pub returns-clause-goes : goal.returns-clause-goes
unfolding bind
returns-clause-goes c = λ p m k s.
    let index : c.in_ok-clone.field-0.value ≡ c.args.index.now.value = cc (c.in_ok-clone.ensures.cases) in
    let value : c.in_ok-clone-2.field-0.value ≡ c.args.value.now.value = cc (c.in_ok-clone-2.ensures.cases) in
    let array : c.in_ok-clone-3.field-0.value ≡ c.args.array.now.value = cc (c.in_ok-clone-3.ensures.cases) in
    ap (λ fs. valued (m.eval (view c.in_ok-clone-3.field-0.value)) (waits p m k fs) s) c.in_ok-push.ensures.ok
    ∙ (λ i. valued (set_element p m (view (array i)) (view (index i)) (view (value i))) (waits p m k c.args.frames.now) s)
