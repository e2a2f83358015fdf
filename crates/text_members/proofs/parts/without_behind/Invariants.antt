use Rattle.std.proofs.Common.{◌≡◌, ◌+◌, ◌≤◌, length, take}
use Rattle.std.specs.List.{suffix_len}
use Rattle.text_members.specs.Parts.{is_blank}
use Rattle.text_members.proofs.parts.without_behind.Given as goal

abbrev pub invariant-loop-end : goal.invariant-loop-end
invariant-loop-end l =
    (l.end ≤ length l.units)
    × (l.end + suffix_len is_blank l.units ≡ length l.units + suffix_len is_blank (take l.end l.units))

abbrev pub decreases-loop-end : goal.decreases-loop-end
decreases-loop-end l = l.end
