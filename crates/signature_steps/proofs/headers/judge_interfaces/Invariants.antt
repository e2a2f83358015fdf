use Rattle.std.proofs.Common.{◌≡◌, [], drop, map}
use Rattle.je_ast.specs.Types.{type_views_of}
use Rattle.name_types.specs.View.{shown}
use Rattle.signature_steps.specs.View.{setting_of}
use Rattle.signature_typing.specs.Signatures.{interfaces_from}
use Rattle.signature_steps.proofs.headers.judge_interfaces.Given as goal

abbrev pub invariant-loop-at : goal.invariant-loop-at
invariant-loop-at l =
    interfaces_from (setting_of l.setting) l.class.0 [] (type_views_of l.interfaces)
    ≡ interfaces_from (setting_of l.setting) l.class.0 (map shown l.earlier.items) (type_views_of (drop l.at l.interfaces))
