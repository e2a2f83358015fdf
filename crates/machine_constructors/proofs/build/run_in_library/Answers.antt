use Rattle.std.proofs.Common.{List, sym, ap, ◌∙◌}
use Rattle.je_core.specs.View.{program_view}
use Rattle.je_core.specs.declared.value.Value.{Value}
use Rattle.je_java.specs.Steps.{Run, ret}
use Rattle.machine_parts.specs.declared.frame.Env.{Env}
use Rattle.machine_parts.specs.declared.frame.Frame.{Frame}
use Rattle.machine_parts.specs.Ways.{ended, goes_on, own_of, state, state_of, waits}
use Rattle.machine_parts.proofs.Results.{if_ok-map}
use Rattle.machine_forms.specs.declared.library.Ran.{Ran}
use Rattle.machine_forms.specs.way.Running.{ran_ways}
use Rattle.machine_constructors.proofs.build.run_in_library.Goals as goal

pub returns-in-Value-clause-goes : goal.returns-in-Value-clause-goes
unfolding ret
returns-in-Value-clause-goes c = if_ok-map c.completed.result (λ control goes m k outside.
    let p = program_view c.args.program.now in
    let before = c.args.context.now in
    let made = c.run_library.new.context in
    let after = c.run_library.new.heap in
    let ways = waits p m k before.frames in
    let go : Value → Run = λ dropped. ended (goes_on p m c.args.rest) ways in
    goes m k outside
    ∙ ap (λ (fs : List Frame). ended (goes_on p m c.args.rest) (waits p m k fs) (state made after outside)) c.in_ok-run_library.ensures.frames
    ∙ ap (λ (env : Env). ended (goes_on p m c.args.rest) ways (state_of made.units made.begun after outside (own_of env))) c.in_ok-run_library.ensures.env
    ∙ ap (λ (ran : Ran). ran_ways ran go ways.out (state_of made.units made.begun after outside (own_of before.env))) (sym c.in-Value.is)
    ∙ c.in_ok-run_library.ensures.goes go ways.out outside (own_of before.env)) c.completed.ensures.goes
