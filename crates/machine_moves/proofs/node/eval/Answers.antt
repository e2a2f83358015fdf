use Rattle.std.proofs.Common.{◌<◌, arith}
use Rattle.je_core.specs.View.{program_view}
use Rattle.je_java.specs.Meaning.{java}
use Rattle.machine_parts.specs.Ways.{waits, state}
use Rattle.machine_parts.proofs.Results.{if_ok-map}
use Rattle.machine_moves.proofs.Begins.{eval-spent, eval-begins}
use Rattle.machine_moves.proofs.node.eval.Goals as goal

pub returns-then-context-eq0-clause-goes : goal.returns-then-context-eq0-clause-goes
returns-then-context-eq0-clause-goes c = λ k.
    let p = program_view c.args.program.now in
    let ways = waits p (java p) k c.args.context.now.frames in
    eval-spent p (state c.args.context.now c.args.heap.now c.args.starts.now) ways.out c.args.node.value ways.give c.if-context-eq0.true

pub returns-clause-goes : goal.returns-clause-goes
returns-clause-goes c = if_ok-map c.begin_node.result (λ control goes k.
    let p = program_view c.args.program.now in
    let ways = waits p (java p) k c.args.context.now.frames in
    let lt : 0 < c.args.context.now.units = omega (arith, c.if-context-eq0.false) in
    eval-begins p (state c.args.context.now c.args.heap.now c.args.starts.now) ways.out c.args.node.value ways.give _ lt (goes k)) c.begin_node.ensures.goes
