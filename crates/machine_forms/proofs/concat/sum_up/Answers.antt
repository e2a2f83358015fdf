use Rattle.std.proofs.Common.{◌++◌, sym, ap, ◌∙◌}
use Rattle.je_core.specs.View.{program_view}
use Rattle.je_core.specs.declared.value.Value.TheVariants.{Ref}
use Rattle.machine_parts.specs.declared.frame.Made.{Made}
use Rattle.machine_parts.specs.declared.frame.Made.TheVariants.{Object, Spent, Wrong}
use Rattle.machine_parts.specs.Ways.{waits, valued, state}
use Rattle.machine_parts.specs.way.Clauses.{made_ways}
use Rattle.machine_parts.proofs.Results.{if_ok-map}
use Rattle.machine_forms.specs.way.Updating.{becomes}
use Rattle.machine_forms.proofs.Joining.{summed_first}
use Rattle.machine_forms.proofs.concat.sum_up.Goals as goal

pub returns-in-Object-clause-goes : goal.returns-in-Object-clause-goes
returns-in-Object-clause-goes c = if_ok-map c.put_sum.result (λ control goes m k outside.
    let p = program_view c.args.program.now in
    let before = c.args.context.now in
    let after = state c.make_text.new.context c.make_text.new.heap outside in
    goes m k outside
    ∙ ap (λ fs. valued (becomes p c.args.sum (Ref c.in-Object.text)) (waits p m k fs) after) c.in_ok-text.ensures.frames
    ∙ summed_first p c.args.sum (c.args.front ++ c.args.back.now) (Object c.in-Object.text) (waits p m k before.frames) (state before c.args.heap.now outside) after
    (λ go exits. ap (λ (made : Made). made_ways made go after) (sym c.in-Object.is) ∙ c.in_ok-text.ensures.goes go exits outside)) c.put_sum.ensures.goes

pub returns-in-Spent-clause-goes : goal.returns-in-Spent-clause-goes
returns-in-Spent-clause-goes c = λ m k outside.
    let p = program_view c.args.program.now in
    let before = c.args.context.now in
    let after = state c.make_text.new.context c.make_text.new.heap outside in
    summed_first p c.args.sum (c.args.front ++ c.args.back.now) Spent (waits p m k before.frames) (state before c.args.heap.now outside) after
    (λ go exits. ap (λ (made : Made). made_ways made go after) (sym c.in-Spent.is) ∙ c.in_ok-text.ensures.goes go exits outside)

pub returns-in-Wrong-clause-goes : goal.returns-in-Wrong-clause-goes
returns-in-Wrong-clause-goes c = λ m k outside.
    let p = program_view c.args.program.now in
    let before = c.args.context.now in
    let after = state c.make_text.new.context c.make_text.new.heap outside in
    summed_first p c.args.sum (c.args.front ++ c.args.back.now) Wrong (waits p m k before.frames) (state before c.args.heap.now outside) after
    (λ go exits. ap (λ (made : Made). made_ways made go after) (sym c.in-Wrong.is) ∙ c.in_ok-text.ensures.goes go exits outside)
