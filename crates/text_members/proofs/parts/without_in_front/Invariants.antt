use Rattle.std.proofs.Common.{◌≡◌, ◌+◌, ◌-◌, ◌≤◌, length, drop}
use Rattle.std.specs.List.{prefix_len}
use Rattle.text_members.specs.Parts.{is_blank}
use Rattle.text_members.proofs.parts.without_in_front.Given as goal

abbrev pub invariant-loop-start : goal.invariant-loop-start
invariant-loop-start l =
    (l.start ≤ length l.units)
    × (l.start + prefix_len is_blank (drop l.start l.units) ≡ prefix_len is_blank l.units)

abbrev pub decreases-loop-start : goal.decreases-loop-start
decreases-loop-start l = length l.units - l.start
