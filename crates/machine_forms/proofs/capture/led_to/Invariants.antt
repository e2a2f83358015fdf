use Rattle.std.proofs.Common.{◌≡◌, ℕ, drop}
use Rattle.je_core.specs.declared.value.Value.{Value}
use Rattle.je_core.specs.View.{program_view}
use Rattle.je_java.specs.Steps.{Outside, Run, Exits}
use Rattle.je_java.specs.Meaning.{led_to}
use Rattle.machine_parts.specs.declared.frame.Env.{Env}
use Rattle.machine_parts.specs.Ways.{own_of, state_of}
use Rattle.machine_forms.proofs.capture.led_to.Given as goal

abbrev pub invariant-loop-step : goal.invariant-loop-step
invariant-loop-step l = (env : Env) (go : Value → Run) (exits : Exits) (units begun : ℕ) (outside : Outside) →
    led_to (program_view l.program) (drop l.step-index l.path) l.reached go exits (state_of units begun l.heap outside (own_of env)) ≡
    led_to (program_view l.program) l.path l.fn.value go exits (state_of units begun l.heap outside (own_of env))
