use Rattle.std.proofs.Common.{◌∙◌}
use Rattle.je_ast.specs.Types.{type_view}
use Rattle.core_making.proofs.Heads.{same_span}
use Rattle.core_making.proofs.above.named_head.Goals as goal

pub returns : goal.returns
returns c =
    (λ i. record { class = c.args.class; span = (c.name_span.ensures ∙ same_span (type_view c.args.ty.now)) i })
