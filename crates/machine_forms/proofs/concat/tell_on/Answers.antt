use Rattle.std.proofs.Common.{sym, ap, ◌∙◌}
use Rattle.je_core.specs.View.{program_view}
use Rattle.je_java.specs.Steps.{bind}
use Rattle.machine_parts.specs.declared.frame.Told.{Told}
use Rattle.machine_parts.specs.Telling.{told_by}
use Rattle.machine_parts.specs.Ways.{waits, valued, state}
use Rattle.machine_parts.proofs.Results.{if_ok-map}
use Rattle.machine_forms.proofs.concat.tell_on.Goals as goal

pub returns-in-Left-clause-goes : goal.returns-in-Left-clause-goes
unfolding bind
returns-in-Left-clause-goes c = if_ok-map c.tell_left.result (λ control goes m k outside.
    let p = program_view c.args.program.now in
    let before = c.args.context.now in
    goes m k outside
    ∙ ap (λ (t : Told). valued (told_by p m t c.args.value) (waits p m k before.frames) (state before c.args.heap.now outside)) (sym c.in-Left.is)) c.tell_left.ensures.goes

pub returns-in-Right-clause-goes : goal.returns-in-Right-clause-goes
unfolding bind
returns-in-Right-clause-goes c = if_ok-map c.tell_right.result (λ control goes m k outside.
    let p = program_view c.args.program.now in
    let before = c.args.context.now in
    goes m k outside
    ∙ ap (λ (t : Told). valued (told_by p m t c.args.value) (waits p m k before.frames) (state before c.args.heap.now outside)) (sym c.in-Right.is)) c.tell_right.ensures.goes
