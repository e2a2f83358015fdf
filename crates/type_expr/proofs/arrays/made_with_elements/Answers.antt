use Rattle.std.proofs.Common.{◌≡◌, IfOk, map, subst}
use Rattle.je_scopes.specs.SourceTypes.{SourceType}
use Rattle.je_typing.specs.Judged.{gives}
use Rattle.source_subtypes.specs.View.{heads_of}
use Rattle.typed_nodes.specs.declared.typed.TypedExpr.{TypedExpr}
use Rattle.typed_nodes.specs.Seen.{seen}
use Rattle.operator_steps.specs.Made.{new_array_of}
use Rattle.operator_steps.specs.Parts.{part_seen}
use Rattle.type_expr.proofs.Types.{innermost_is}
use Rattle.type_expr.proofs.arrays.made_with_elements.Goals as goal

pub returns-clause-ok : goal.returns-clause-ok
returns-clause-ok c =
    subst (λ (of : SourceType). IfOk c.new_array_of.result (λ (t : TypedExpr). new_array_of (heads_of c.args.heads.now) of
    c.args.dims c.args.name c.args.span (map part_seen c.args.elements.items) ≡ gives (seen t)))
    (innermost_is c.args.of) c.new_array_of.ensures.ok
