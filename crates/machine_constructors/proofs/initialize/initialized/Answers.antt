use Rattle.std.proofs.Common.{◌+◌, ◌∙◌}
use Rattle.std.specs.Prelude.{false}
use Rattle.je_core.specs.View.{initializer_view, program_view, stmt_form_view}
use Rattle.je_classes.specs.Hierarchy.{class_at}
use Rattle.machine_parts.specs.Ways.{waits, state}
use Rattle.machine_parts.proofs.Results.{if_ok-map}
use Rattle.machine_parts.proofs.Initializers.{next_is}
use Rattle.machine_constructors.proofs.Initializing.{one_first}
use Rattle.machine_constructors.proofs.initialize.initialized.Goals as goal

pub returns-in-Some-clause-goes : goal.returns-in-Some-clause-goes
returns-in-Some-clause-goes c = if_ok-map c.enter_initializer.result (λ control goes m k outside.
    let p = program_view c.args.program.now in
    let before = c.args.context.now in
    let all = c.initializers-all.result.now in
    let place = c.in-Some.place in
    let i = c.index-all-place.result in
    goes p m k c.args.heap.now outside
    ∙ one_first p m c.args.class (stmt_form_view c.args.body.value.form) c.args.at c.args.next (waits p m k before.frames) (state before c.args.heap.now outside) (place + 1)
    (initializer_view i)
    (next_is (class_at p c.args.class) false all c.args.at place i c.initializers-all.ensures c.in-Some.ensures.goes c.in-Some.ensures.within c.index-all-place.is)) c.enter_initializer.ensures.goes
