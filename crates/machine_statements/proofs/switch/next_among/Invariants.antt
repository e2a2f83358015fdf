use Rattle.std.proofs.Common.{◌≡◌, map}
use Rattle.je_core.specs.View.{group_view}
use Rattle.machine_parts.specs.Ways.{rest_of}
use Rattle.machine_statements.proofs.switch.next_among.Given as goal

abbrev pub invariant-loop-at : goal.invariant-loop-at
invariant-loop-at l = rest_of (map group_view l.groups) l.at l.next ≡ rest_of (map group_view l.groups) l.fn.group l.fn.next
