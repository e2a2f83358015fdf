use Rattle.std.proofs.Common.{sym, ap, ◌∙◌}
use Rattle.je_core.specs.View.{program_view}
use Rattle.je_java.specs.Meaning.{java}
use Rattle.machine_parts.specs.declared.frame.Frame.{Frame}
use Rattle.machine_parts.specs.Ways.{waits, frame_ways, state}
use Rattle.machine_parts.proofs.Results.{if_ok-map}
use Rattle.machine_moves.proofs.give.give.Goals as goal

pub returns-in-SetArray-clause-goes : goal.returns-in-SetArray-clause-goes
returns-in-SetArray-clause-goes c = if_ok-map c.begin_set_index.result (λ control begins k.
    let p = program_view c.args.program.now in
    let before = c.args.context.now in
    let s = state before c.args.heap.now c.args.starts.now in
    begins p (java p) k s
    ∙ ap (λ (f : Frame). (frame_ways p (java p) f (waits p (java p) k before.frames)).give c.args.value s) (sym c.in-SetArray.is)) c.begin_set_index.ensures.goes
