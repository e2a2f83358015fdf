use Rattle.std.proofs.Common.{◌≡◌, drop, map}
use Rattle.je_ast.specs.Types.{parameter_view}
use Rattle.signature_steps.specs.View.{setting_of}
use Rattle.signature_typing.specs.Signatures.{bounds}
use Rattle.signature_steps.proofs.headers.judge_bounds.Given as goal

abbrev pub invariant-loop-at : goal.invariant-loop-at
invariant-loop-at l =
    bounds (setting_of l.setting) l.class.0 (map parameter_view l.parameters)
    ≡ bounds (setting_of l.setting) l.class.0 (map parameter_view (drop l.at l.parameters))
