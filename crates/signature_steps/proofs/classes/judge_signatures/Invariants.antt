use Rattle.std.proofs.Common.{◌≡◌, ◌-◌, length}
use Rattle.signature_steps.specs.View.{setting_of}
use Rattle.signature_typing.specs.Signatures.{signatures_from}
use Rattle.signature_steps.proofs.classes.judge_signatures.Given as goal

abbrev pub invariant-loop-at : goal.invariant-loop-at
invariant-loop-at l =
    signatures_from (setting_of l.setting) 0 (length (setting_of l.setting).sites)
    ≡ signatures_from (setting_of l.setting) l.at (length (setting_of l.setting).sites - l.at)
