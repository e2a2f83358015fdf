use Rattle.std.proofs.Common.{sym, ap, ◌∙◌}
use Rattle.je_typing.specs.Judged.{gives}
use Rattle.source_subtypes.specs.View.{heads_of}
use Rattle.typed_nodes.specs.Seen.{seen}
use Rattle.operator_steps.proofs.Judging.{update_gives}
use Rattle.operator_steps.proofs.assignments.update.Goals as goal

pub returns-clause-ok : goal.returns-clause-ok
returns-clause-ok c =
    update_gives (heads_of c.args.heads.now) c.args.op c.args.at c.args.left_span c.args.span (seen c.args.left) (seen c.args.right) _ c.in_ok-judged_sides.ensures.ok
    ∙ ap gives (sym c.in_ok-whole.ensures)
