use Rattle.std.proofs.Common.{◌≡◌, ℕ, drop, map}
use Rattle.je_core.specs.declared.value.Value.{Value}
use Rattle.je_core.specs.View.{capture_view, program_view}
use Rattle.je_java.specs.Steps.{Outside, Run, Exits, Computation}
use Rattle.je_java.specs.Meaning.{hand_over}
use Rattle.machine_parts.specs.Ways.{own_of, state_of}
use Rattle.machine_forms.proofs.capture.hand_over.Given as goal

abbrev pub invariant-loop-capture : goal.invariant-loop-capture
invariant-loop-capture l = (next : Computation Value) (go : Value → Run) (exits : Exits) (units begun : ℕ) (outside : Outside) →
    hand_over (program_view l.program) (map capture_view (drop l.capture-index l.captures)) l.object next go exits (state_of units begun l.heap outside (own_of l.env)) ≡
    hand_over (program_view l.program) (map capture_view l.captures) l.object next go exits (state_of units begun l.fn.heap outside (own_of l.env))
