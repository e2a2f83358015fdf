use Rattle.std.proofs.Common.{true, ◌∙◌}
use Rattle.je_core.specs.View.{initializer_view, program_view}
use Rattle.je_classes.specs.Hierarchy.{class_at}
use Rattle.je_java.specs.Meaning.{java}
use Rattle.machine_parts.specs.Ways.{goes_behind, waits, state}
use Rattle.machine_parts.proofs.Initializers.{next_is}
use Rattle.machine_parts.proofs.Results.{if_ok-map}
use Rattle.machine_starts.proofs.Initializing.{goes_on}
use Rattle.machine_starts.proofs.initialize.starts_on.Goals as goal

pub returns-in-Some-clause-goes : goal.returns-in-Some-clause-goes
returns-in-Some-clause-goes c = if_ok-map c.enter.result (λ control goes k.
    let p = program_view c.args.program.now in
    let m = java p in
    let before = c.args.context.now in
    let start = c.args.start in
    let i = c.index-all-place.result in
    goes p m k c.args.heap.now c.args.starts.now
    ∙ goes_on p m start.class start.classes (goes_behind p m start.then (waits p m k before.frames)) (state before c.args.heap.now c.args.starts.now) start.at start.outer
    c.in-Some.place (initializer_view i)
    (next_is (class_at p start.class) true c.initializers-all.result.now start.at c.in-Some.place i c.initializers-all.ensures c.in-Some.ensures.goes c.in-Some.ensures.within c.index-all-place.is)) c.enter.ensures.goes
