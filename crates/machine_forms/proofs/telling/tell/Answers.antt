use Rattle.std.proofs.Common.{sym, ◌∙◌}
use Rattle.je_core.specs.View.{program_view, method_view}
use Rattle.je_classes.specs.Dispatch.{dispatched}
use Rattle.je_java.specs.Classes.{method_at}
use Rattle.je_java.specs.Meaning.{member_at}
use Rattle.machine_parts.specs.Ways.{state_of}
use Rattle.machine_parts.proofs.Results.{if_ok-map}
use Rattle.machine_forms.proofs.Joining.{told_first}
use Rattle.machine_forms.proofs.telling.tell.Goals as goal

pub returns-in-Some-method_at-clause-goes : goal.returns-in-Some-method_at-clause-goes
returns-in-Some-method_at-clause-goes c = if_ok-map c.tell_by.result (λ telling goes m go exits outside own.
    let p = program_view c.args.program.now in
    let before = c.args.context.now in
    let class = c.object_class-class.ensures in
    let at = c.to_string_place-at.ensures in
    goes m go exits outside own
    ∙ sym (told_first p m c.args.object c.in-Some.own (method_view c.in-Some-method.field-0.now)
    (method_view c.in-Some-method_at.found.now) (member_at c.in-Some-dispatched.by c.in-Some-dispatched.place)
    go exits (state_of before.units before.begun c.args.heap.now outside own)
    (sym c.in-Some.ensures)
    (sym (c.in-Some-method.ensures ∙ (λ i. method_at p (class i) (at i))))
    (sym (c.in-Some-dispatched.ensures ∙ (λ i. dispatched p (c.receiving_class.ensures i) (member_at (class i) (at i)))))
    (sym c.in-Some-method_at.ensures))) c.tell_by.ensures.goes
