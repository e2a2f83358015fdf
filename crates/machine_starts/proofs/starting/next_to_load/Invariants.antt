use Rattle.std.proofs.Common.{◌≡◌, ◌+◌}
use Rattle.je_core.specs.View.{program_view}
use Rattle.je_java.specs.Meaning.{Meanings}
use Rattle.je_java.specs.Steps.{State, with_outside}
use Rattle.machine_parts.specs.Starts.{load_from}
use Rattle.machine_starts.proofs.starting.next_to_load.Given as goal

abbrev pub invariant-loop-count : goal.invariant-loop-count
invariant-loop-count l = record {
  same : (m : Meanings) (s : State) →
      load_from (program_view l.program) m l.next l.count (with_outside s l.starts) ≡
      load_from (program_view l.program) m l.fn.left.next l.fn.left.count (with_outside s l.fn.starts);
  all : l.next + l.count ≡ l.fn.left.next + l.fn.left.count;
}

abbrev pub decreases-loop-count : goal.decreases-loop-count
decreases-loop-count l = l.count
