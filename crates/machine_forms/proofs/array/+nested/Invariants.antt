use Rattle.std.proofs.Common.{◌≡◌, ◌+◌, ◌-◌, ℕ, length, drop, get_or}
use Rattle.je_core.specs.declared.value.Value.{Value}
use Rattle.je_java.specs.Steps.{Outside, Own, Run, Exits}
use Rattle.je_java.specs.Arrays.{nested, repeated, filled}
use Rattle.machine_parts.specs.Ways.{state_of}
use Rattle.machine_forms.proofs.array.+nested.Given as goal

abbrev pub decreases-nested : goal.decreases-nested
decreases-nested l = length l.counts.now - l.at

abbrev pub invariant-loop-made : goal.invariant-loop-made
invariant-loop-made l = (go : Value → Run) (exits : Exits) (units begun : ℕ) (outside : Outside) (own : Own) →
    repeated (get_or l.counts l.at 0 - l._made) (nested l.element (drop (l.at + 1) l.counts)) (filled l.element) l.values go exits (state_of units begun l.heap outside own) ≡
    nested l.fn.ty (drop l.at l.counts) go exits (state_of units begun l.fn.heap outside own)
