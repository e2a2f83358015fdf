use Rattle.std.proofs.Common.{◌∙◌, subst}
use Rattle.je_core.specs.View.{program_view}
use Rattle.je_java.specs.Meaning.{java}
use Rattle.machine_parts.specs.Ways.{state}
use Rattle.machine_parts.proofs.Results.{if_ok-map}
use Rattle.machine_starts.specs.way.Starting.{LoadsNext}
use Rattle.machine_starts.proofs.initialize.load_classes.Goals as goal

pub returns-in-None-clause-goes : goal.returns-in-None-clause-goes
returns-in-None-clause-goes c =
    let p = program_view c.args.program.now in
    let loads = subst (LoadsNext p c.args.left c.args.starts.now c.next_to_load.new.starts) c.in-None.is c.in_ok-next_to_load.ensures.goes in
    λ k. loads (java p) (state c.args.context.now c.args.heap.now c.args.starts.now)

pub returns-in-Some-clause-goes : goal.returns-in-Some-clause-goes
returns-in-Some-clause-goes c =
    let p = program_view c.args.program.now in
    let loads = subst (LoadsNext p c.args.left c.args.starts.now c.next_to_load.new.starts) c.in-Some.is c.in_ok-next_to_load.ensures.goes in
    if_ok-map c.begin_class.result (λ control goes k. goes k ∙ loads (java p) (state c.args.context.now c.args.heap.now c.args.starts.now)) c.begin_class.ensures.goes
