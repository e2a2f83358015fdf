use Rattle.std.proofs.Common.{◌≡◌, ◌-◌, drop, length, map}
use Rattle.std.specs.Prelude.{filter}
use Rattle.je_core.specs.View.{initializer_view}
use Rattle.machine_parts.specs.way.Clauses.{is_of_kind}
use Rattle.machine_parts.proofs.class.next_initializer.Given as goal

abbrev pub invariant-loop-next : goal.invariant-loop-next
invariant-loop-next l =
    filter (is_of_kind l.is_static) (drop l.next (map initializer_view l.initializers)) ≡ filter (is_of_kind l.is_static) (drop l.at (map initializer_view l.initializers))

abbrev pub decreases-loop-next : goal.decreases-loop-next
decreases-loop-next l = length l.initializers - l.next
