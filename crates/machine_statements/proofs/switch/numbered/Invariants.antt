use Rattle.std.proofs.Common.{◌≡◌, drop, map}
use Rattle.je_core.specs.View.{group_view}
use Rattle.je_java.specs.Meaning.{has_number, groups_from}
use Rattle.machine_statements.proofs.switch.numbered.Given as goal

abbrev pub invariant-loop-at : goal.invariant-loop-at
invariant-loop-at l = groups_from (has_number l.number) (map group_view (drop l.at l.groups)) ≡ groups_from (has_number l.number) (map group_view l.groups)
