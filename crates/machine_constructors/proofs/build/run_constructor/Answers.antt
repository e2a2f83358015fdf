use Rattle.std.proofs.Common.{◌≡◌, None, sym, ap, ◌∙◌}
use Rattle.je_core.specs.View.{method_view, program_view, stmt_view_if}
use Rattle.je_core.specs.declared.value.Value.{Value}
use Rattle.je_java.specs.Steps.{Computation, Run}
use Rattle.machine_parts.specs.Ways.{ended, goes_on, state, waits}
use Rattle.machine_parts.proofs.Results.{if_ok-map}
use Rattle.machine_constructors.proofs.Building.{without_body}
use Rattle.machine_constructors.proofs.build.run_constructor.Goals as goal

pub returns-in-None-clause-goes : goal.returns-in-None-clause-goes
returns-in-None-clause-goes c =
    let none : None ≡ (method_view c.args.constructor.now).body = ap stmt_view_if (sym c.in-None.is) ∙ c.in_ok-block.ensures in
    if_ok-map c.run_in_library.result (λ control goes m k outside.
    let p = program_view c.args.program.now in
    let before = c.args.context.now in
    let ways = waits p m k before.frames in
    let go : Value → Run = λ dropped. ended (goes_on p m c.args.rest) ways in
    goes m k outside
    ∙ ap (λ (n : Computation Value). n go ways.out (state before c.args.heap.now outside))
    (without_body p m c.args.class c.args.at (method_view c.args.constructor.now) before.env.this c.args.values none)) c.run_in_library.ensures.goes
