use Rattle.std.proofs.Common.{◌≡◌, Some, true, false, sym, ap, ◌∙◌}
use Rattle.je_core.specs.declared.expr.Expr.{Expr}
use Rattle.je_core.specs.declared.value.Value.{Value}
use Rattle.je_core.specs.View.{form_view, program_view}
use Rattle.je_java.specs.Steps.{Computation, bind, ret, updated}
use Rattle.je_java.specs.Texts.{is_string, concatenated}
use Rattle.machine_parts.specs.Telling.{put_by}
use Rattle.machine_parts.specs.Ways.{waits, valued, state}
use Rattle.machine_parts.proofs.Results.{if_ok-map}
use Rattle.machine_forms.specs.way.Updating.{op_of}
use Rattle.machine_forms.proofs.Updates.{update_of_text, update_of_number}
use Rattle.machine_forms.proofs.update.update_by.Goals as goal

pub returns-then-is_string-clause-goes : goal.returns-then-is_string-clause-goes
unfolding bind ret concatenated
returns-then-is_string-clause-goes c = if_ok-map c.texts_of.result (λ control goes m k outside.
    let p = program_view c.args.program.now in
    let before = c.args.context.now in
    let node = c.args.node.value in
    let op : op_of (form_view node.form) ≡ Some c.in-Some.op = sym (c.in-Some.ensures ∙ ap (λ (n : Expr). op_of (form_view n.form)) c.deref.ensures) in
    let of_text : is_string node.ty ≡ true = sym (c.is_string.ensures ∙ ap (λ (n : Expr). is_string n.ty) c.deref-2.ensures) ∙ c.if-is_string.true in
    goes m k outside
    ∙ ap (λ (n : Computation Value). valued n (waits p m k before.frames) (state before c.args.heap.now outside))
    (update_of_text p m node.ty (form_view node.form) c.args.object c.args.index c.args.old c.args.operand c.in-Some.op op of_text)) c.texts_of.ensures.goes

pub returns-else-is_string-clause-goes : goal.returns-else-is_string-clause-goes
returns-else-is_string-clause-goes c = if_ok-map c.put_outcome.result (λ control goes m k outside.
    let p = program_view c.args.program.now in
    let before = c.args.context.now in
    let ways = waits p m k before.frames in
    let now = state before c.args.heap.now outside in
    let node = c.args.node.value in
    let op : op_of (form_view node.form) ≡ Some c.in-Some.op = sym (c.in-Some.ensures ∙ ap (λ (n : Expr). op_of (form_view n.form)) c.deref.ensures) in
    let of_number : is_string node.ty ≡ false = sym (c.is_string.ensures ∙ ap (λ (n : Expr). is_string n.ty) c.deref-2.ensures) ∙ c.if-is_string.false in
    goes m k outside
    ∙ ap (λ (n : Expr). valued (bind (updated p n.ty c.in-Some.op c.args.old c.args.operand) (put_by p (form_view n.form) c.args.object c.args.index c.args.old)) ways now) c.deref-else-is_string.ensures
    ∙ ap (λ (n : Computation Value). valued n ways now)
    (update_of_number p m node.ty (form_view node.form) c.args.object c.args.index c.args.old c.args.operand c.in-Some.op op of_number)) c.put_outcome.ensures.goes
