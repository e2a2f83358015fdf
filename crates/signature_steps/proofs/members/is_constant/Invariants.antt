use Rattle.std.proofs.Common.{◌≡◌, drop}
use Rattle.signature_steps.specs.View.{is_among}
use Rattle.signature_steps.proofs.members.is_constant.Given as goal

abbrev pub invariant-loop-at : goal.invariant-loop-at
invariant-loop-at l =
    is_among (drop l.at l.constants) l.class.0 l.name ≡ is_among l.constants l.class.0 l.name
