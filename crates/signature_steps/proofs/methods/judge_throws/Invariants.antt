use Rattle.std.proofs.Common.{◌≡◌, drop, map}
use Rattle.je_ast.specs.Types.{name_view}
use Rattle.name_types.specs.View.{shown}
use Rattle.signature_steps.specs.View.{setting_of}
use Rattle.signature_typing.specs.Signatures.{all_thrown}
use Rattle.signature_steps.proofs.methods.judge_throws.Given as goal

abbrev pub invariant-loop-ty : goal.invariant-loop-ty
invariant-loop-ty l =
    all_thrown (setting_of l.setting).heads (map shown l.types) (map name_view l.names)
    ≡ all_thrown (setting_of l.setting).heads (map shown (drop l.ty-index l.types)) (map name_view l.left)
