use Rattle.std.proofs.Common.{◌≡◌, drop, map}
use Rattle.je_ast.specs.Types.{formal_view}
use Rattle.name_lookup.specs.View.{part_view}
use Rattle.signature_steps.specs.View.{setting_of}
use Rattle.signature_typing.specs.Signatures.{formals}
use Rattle.signature_steps.proofs.methods.judge_formals.Given as goal

abbrev pub invariant-loop-at : goal.invariant-loop-at
invariant-loop-at l =
    formals (setting_of l.setting) l.place.class.0 (part_view l.place.part) (map formal_view l.formals)
    ≡ formals (setting_of l.setting) l.place.class.0 (part_view l.place.part) (map formal_view (drop l.at l.formals))
