use Rattle.std.proofs.Common.{◌≡◌, length}
use Rattle.je_core.specs.View.{program_view}
use Rattle.je_java.specs.Meaning.{Meanings}
use Rattle.je_java.specs.Steps.{State, Run}
use Rattle.machine_parts.specs.Starts.{initialize_all}
use Rattle.machine_starts.proofs.starting.next_class.Given as goal

abbrev pub invariant-loop-class : goal.invariant-loop-class
invariant-loop-class l = (m : Meanings) (go : Run) (s : State) →
    initialize_all (program_view l.program) m l.path go s ≡ initialize_all (program_view l.program) m l.fn.path go s

abbrev pub decreases-loop-class : goal.decreases-loop-class
decreases-loop-class l = length l.path
