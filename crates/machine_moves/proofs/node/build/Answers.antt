use Rattle.std.proofs.Common.{◌<◌, arith}
use Rattle.je_core.specs.View.{program_view}
use Rattle.je_java.specs.Meaning.{java}
use Rattle.machine_parts.specs.Ways.{waits, state}
use Rattle.machine_parts.proofs.Results.{if_ok-map}
use Rattle.machine_moves.proofs.Begins.{build-spent, build-begins}
use Rattle.machine_moves.proofs.node.build.Goals as goal

pub returns-then-context-eq0-clause-goes : goal.returns-then-context-eq0-clause-goes
returns-then-context-eq0-clause-goes c = λ k outside.
    let p = program_view c.args.program.now in
    let ways = waits p (java p) k c.args.context.now.frames in
    build-spent p (state c.args.context.now c.args.heap.now outside) ways.out c.args.class c.args.body.value ways.next c.if-context-eq0.true

pub returns-clause-goes : goal.returns-clause-goes
returns-clause-goes c = if_ok-map c.begin_body.result (λ control goes k outside.
    let p = program_view c.args.program.now in
    let ways = waits p (java p) k c.args.context.now.frames in
    let lt : 0 < c.args.context.now.units = omega (arith, c.if-context-eq0.false) in
    build-begins p (state c.args.context.now c.args.heap.now outside) ways.out c.args.class c.args.body.value ways.next _ lt (goes (java p) k outside)) c.begin_body.ensures.goes
