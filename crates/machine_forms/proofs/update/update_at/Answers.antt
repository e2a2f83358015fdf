use Rattle.std.proofs.Common.{ap, ◌∙◌}
use Rattle.je_core.specs.declared.expr.Expr.{Expr}
use Rattle.je_core.specs.View.{form_view, program_view}
use Rattle.je_java.specs.Steps.{bind, ret, raise, throw, wrong}
use Rattle.machine_parts.specs.declared.frame.Fetched.TheVariants.{Value, Null, Outside, Wrong}
use Rattle.machine_parts.specs.Ways.{waits, state}
use Rattle.machine_parts.specs.way.Clauses.{fetched_of}
use Rattle.machine_parts.proofs.Results.{if_ok-map}
use Rattle.machine_forms.proofs.Updates.{fetched_first}
use Rattle.machine_forms.proofs.update.update_at.Goals as goal

pub returns-in-Value-clause-goes : goal.returns-in-Value-clause-goes
unfolding ret
returns-in-Value-clause-goes c = if_ok-map c.with_operand.result (λ control goes m k outside.
    let p = program_view c.args.program.now in
    let before = c.args.context.now in
    goes m k outside
    ∙ fetched_first p m c.args.node.value.ty (form_view c.args.node.value.form) c.args.object c.args.index (Value c.in-Value.old) (waits p m k before.frames) (state before c.args.heap.now outside)
    (λ go exits. c.in-Value.ensures go exits before.units before.begun outside ∙ ap (λ (n : Expr). fetched_of p (form_view n.form) c.args.object c.args.index go exits (state before c.args.heap.now outside)) c.deref.ensures)) c.with_operand.ensures.goes

pub returns-in-Null-clause-goes : goal.returns-in-Null-clause-goes
unfolding raise bind throw
returns-in-Null-clause-goes c = if_ok-map c.raise_null_pointer.result (λ control goes m k outside.
    let p = program_view c.args.program.now in
    let before = c.args.context.now in
    goes m k outside
    ∙ fetched_first p m c.args.node.value.ty (form_view c.args.node.value.form) c.args.object c.args.index Null (waits p m k before.frames) (state before c.args.heap.now outside)
    (λ go exits. c.in-Null.ensures go exits before.units before.begun outside ∙ ap (λ (n : Expr). fetched_of p (form_view n.form) c.args.object c.args.index go exits (state before c.args.heap.now outside)) c.deref.ensures)) c.raise_null_pointer.ensures.goes

pub returns-in-Outside-clause-goes : goal.returns-in-Outside-clause-goes
unfolding raise bind throw
returns-in-Outside-clause-goes c = if_ok-map c.raise_array_index.result (λ control goes m k outside.
    let p = program_view c.args.program.now in
    let before = c.args.context.now in
    goes m k outside
    ∙ fetched_first p m c.args.node.value.ty (form_view c.args.node.value.form) c.args.object c.args.index Outside (waits p m k before.frames) (state before c.args.heap.now outside)
    (λ go exits. c.in-Outside.ensures go exits before.units before.begun outside ∙ ap (λ (n : Expr). fetched_of p (form_view n.form) c.args.object c.args.index go exits (state before c.args.heap.now outside)) c.deref.ensures)) c.raise_array_index.ensures.goes

pub returns-in-Wrong-clause-goes : goal.returns-in-Wrong-clause-goes
unfolding wrong
returns-in-Wrong-clause-goes c = λ m k outside.
    let p = program_view c.args.program.now in
    let before = c.args.context.now in
    fetched_first p m c.args.node.value.ty (form_view c.args.node.value.form) c.args.object c.args.index Wrong (waits p m k before.frames) (state before c.args.heap.now outside)
    (λ go exits. c.in-Wrong.ensures go exits before.units before.begun outside ∙ ap (λ (n : Expr). fetched_of p (form_view n.form) c.args.object c.args.index go exits (state before c.args.heap.now outside)) c.deref.ensures)
