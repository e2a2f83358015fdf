use Rattle.std.proofs.Common.{◌≡◌, drop}
use Rattle.je_ast.specs.Types.{type_view}
use Rattle.je_ast.specs.View.{variable_views_of}
use Rattle.signature_steps.specs.View.{setting_of}
use Rattle.signature_typing.specs.Signatures.{variables}
use Rattle.signature_steps.proofs.members.judge_variables.Given as goal

abbrev pub invariant-loop-var : goal.invariant-loop-var
invariant-loop-var l =
    variables (setting_of l.setting) l.class.0 l.modifiers (type_view l.ty) (variable_views_of l.vars)
    ≡ variables (setting_of l.setting) l.class.0 l.modifiers (type_view l.ty) (variable_views_of (drop l.var-index l.vars))
