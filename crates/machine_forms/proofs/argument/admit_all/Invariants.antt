use Rattle.std.proofs.Common.{◌≡◌, ℕ, drop}
use Rattle.je_core.specs.View.{program_view}
use Rattle.je_java.specs.Steps.{Outside, Own, Run, Exits, Nothing}
use Rattle.je_java.specs.Meaning.{admit_all}
use Rattle.machine_parts.specs.Ways.{state_of}
use Rattle.machine_forms.proofs.argument.admit_all.Given as goal

abbrev pub invariant-loop-at : goal.invariant-loop-at
invariant-loop-at l = (go : Nothing → Run) (exits : Exits) (units begun : ℕ) (outside : Outside) (own : Own) →
    admit_all (program_view l.program) (drop l.at l.types) (drop l.at l.values) go exits (state_of units begun l.heap outside own) ≡
    admit_all (program_view l.program) l.types l.values go exits (state_of units begun l.heap outside own)
