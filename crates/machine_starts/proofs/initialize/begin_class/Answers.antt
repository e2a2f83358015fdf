use Rattle.std.proofs.Common.{◌<◌, ◌+◌, length, sym, ap, ◌∙◌, arith}
use Rattle.std.proofs.lemmas.List.{length-map}
use Rattle.je_core.specs.View.{initializer_view, program_view}
use Rattle.je_java.specs.Meaning.{java, run_initializer}
use Rattle.je_java.specs.Steps.{out_of_start}
use Rattle.je_core.specs.declared.value.Value.TheVariants.{Null}
use Rattle.machine_parts.specs.Starts.{initialize_from}
use Rattle.machine_parts.specs.Ways.{goes_behind, waits, state}
use Rattle.machine_parts.proofs.Lists.{drop-seen}
use Rattle.machine_parts.proofs.Results.{if_ok-map}
use Rattle.machine_starts.proofs.Initializing.{begins}
use Rattle.machine_starts.proofs.initialize.begin_class.Goals as goal

pub returns-clause-goes : goal.returns-clause-goes
returns-clause-goes c = if_ok-map c.enter.result (λ control goes k.
    let p = program_view c.args.program.now in
    let m = java p in
    let before = c.args.context.now in
    let heap = c.args.heap.now in
    let class = c.args.class in
    let place = c.args.place in
    let go = goes_behind p m c.args.then (waits p m k before.frames) in
    let all = c.initializers.result.now in
    let i = c.index-initializers-place.result in
    let below : place < length all = omega (arith, c.requires, ap length c.initializers.ensures, length-map all initializer_view) in
    goes p m k heap c.put_starting.new.self
    ∙ (λ j. run_initializer m Null (initializer_view i) (λ dropped. initialize_from p m class (place + 1) (c.starting-outer.ensures j) c.args.classes go) (out_of_start class) (state before heap (c.put_starting.ensures j)))
    ∙ begins p m class c.args.classes go (state before heap c.args.starts.now) place (initializer_view i)
    (drop-seen initializer_view all _ place i (sym c.initializers.ensures) below c.index-initializers-place.is)) c.enter.ensures.goes
