use Rattle.std.proofs.Common.{◌≡◌, drop}
use Rattle.text_members.specs.Comparing.{first_difference}
use Rattle.text_members.proofs.comparing.first_difference.Given as goal

abbrev pub invariant-loop-at : goal.invariant-loop-at
invariant-loop-at l =
    first_difference (drop l.at l.left) (drop l.at l.right) ≡ first_difference l.left l.right
