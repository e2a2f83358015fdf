use Rattle.std.proofs.Common.{◌≡◌, Some, None, sym, ap, ◌∙◌}
use Rattle.std.specs.Prelude.{Option, option_map}
use Rattle.std.specs.declared.alloc.Global.{Global}
use Rattle.std.specs.declared.rc.Rc.{Rc}
use Rattle.je_core.specs.declared.expr.Expr.{Expr}
use Rattle.je_core.specs.View.{program_view, stmt_form_view}
use Rattle.je_java.specs.Steps.{Computation, Nothing}
use Rattle.machine_parts.specs.Ways.{ended, state, waits}
use Rattle.machine_parts.proofs.Results.{if_ok-map}
use Rattle.machine_constructors.specs.way.Seen.{block_call, form_seen}
use Rattle.machine_constructors.proofs.Building.{of_block}
use Rattle.machine_constructors.proofs.build.begin_body.Goals as goal

pub returns-in-Some-clause-goes : goal.returns-in-Some-clause-goes
returns-in-Some-clause-goes c =
    let found : Some (option_map form_seen c.in-Some.call) ≡ block_call (program_view c.args.program.now) (stmt_form_view c.args.body.value.form) =
    ap (λ (o : Option (Option (Rc Expr Global))). option_map (option_map form_seen) o) (sym c.in-Some.is) ∙ c.in_ok-call.ensures in
    if_ok-map c.build_parts.result (λ control goes m k outside.
    let p = program_view c.args.program.now in
    let before = c.args.context.now in
    goes m k outside
    ∙ ap (λ (n : Computation Nothing). ended n (waits p m k before.frames) (state before c.args.heap.now outside))
    (of_block p m c.args.class (stmt_form_view c.args.body.value.form) (option_map form_seen c.in-Some.call) found)) c.build_parts.ensures.goes
