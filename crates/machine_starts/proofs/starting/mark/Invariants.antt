use Rattle.std.proofs.Common.{◌≡◌}
use Rattle.je_core.specs.View.{program_view}
use Rattle.je_java.specs.Meaning.{Meanings, start, start_first}
use Rattle.je_java.specs.Steps.{State, Run, Exits, with_outside}
use Rattle.je_java.specs.Subclasses.{upwards_within}
use Rattle.machine_parts.specs.Starts.{initialize_all}
use Rattle.machine_starts.proofs.starting.mark.Given as goal

abbrev pub invariant-loop-left : goal.invariant-loop-left
invariant-loop-left l = (m : Meanings) (go : Run) (exits : Exits) (s : State) →
    start_first (program_view l.program) m (upwards_within (program_view l.program) l.left l.above) (λ u. initialize_all (program_view l.program) m l.path go) exits (with_outside s l.starts) ≡
    start (program_view l.program) m l.fn.class (λ u. go) exits (with_outside s l.fn.starts)

abbrev pub decreases-loop-left : goal.decreases-loop-left
decreases-loop-left l = l.left
