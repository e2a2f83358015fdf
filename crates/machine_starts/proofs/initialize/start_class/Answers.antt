use Rattle.std.proofs.Common.{◌∙◌}
use Rattle.je_core.specs.View.{program_view}
use Rattle.je_java.specs.Meaning.{java}
use Rattle.machine_parts.specs.Ways.{goes_behind, waits, state}
use Rattle.machine_parts.proofs.Results.{if_ok-map}
use Rattle.machine_starts.proofs.initialize.start_class.Goals as goal

pub returns-clause-goes : goal.returns-clause-goes
returns-clause-goes c = if_ok-map c.initialize.result (λ control goes k.
    let p = program_view c.args.program.now in
    let m = java p in
    let ways = waits p m k c.args.context.now.frames in
    goes k ∙ c.in_ok-path.ensures m (goes_behind p m c.args.then ways) ways.out (state c.args.context.now c.args.heap.now c.args.starts.now)) c.initialize.ensures.goes
