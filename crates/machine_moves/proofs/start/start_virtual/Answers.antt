use Rattle.std.proofs.Common.{rules, ◌≡◌, Option, Some, true, sym, ◌∙◌}
use Rattle.je_core.specs.View.{program_view, method_view}
use Rattle.je_classes.specs.Dispatch.{dispatched}
use Rattle.je_java.specs.Meaning.{java, member_at, nobody}
use Rattle.machine_parts.specs.Ways.{state_of}
use Rattle.machine_parts.proofs.Results.{if_ok-map}
use Rattle.machine_forms.specs.way.Admitting.{admitted_ways}
use Rattle.machine_moves.proofs.Members.{replied_first}
use Rattle.machine_moves.proofs.start.start_virtual.Goals as goal

pub returns-in-Some-true-clause-goes : goal.returns-in-Some-true-clause-goes
returns-in-Some-true-clause-goes c =
    let admits : Some true ≡ c.in_ok-hand_on.field-0 = search rules in
    if_ok-map c.start_method.result (λ control goes outside.
    let p = program_view c.args.program.now in
    let before = c.args.context.now in
    let s = state_of before.units before.begun c.args.heap.now outside nobody in
    goes outside
    ∙ sym (replied_first p (java p) c.args.class c.in-Some-dispatched.by c.args.at c.in-Some-dispatched.place c.args.object c.in-Some.own
    (method_view c.in-Some-method.named.now) (method_view c.in-Some-method_at.found.now) c.args.args _ _ s
    (sym c.in-Some.ensures)
    (sym c.in-Some-method.ensures)
    (sym (c.in-Some-dispatched.ensures ∙ (λ i. dispatched p (c.receiving_class.ensures i) (member_at c.args.class c.args.at))))
    (sym c.in-Some-method_at.ensures)
    (λ next x. (λ i. admitted_ways p (admits i) next x s) ∙ c.in_ok-hand_on.ensures next x before.units before.begun outside nobody))) c.start_method.ensures.goes
