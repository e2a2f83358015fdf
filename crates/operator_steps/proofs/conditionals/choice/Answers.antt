use Rattle.std.proofs.Common.{sym, ap, ◌∙◌}
use Rattle.je_typing.specs.Judged.{gives}
use Rattle.name_types.specs.View.{shown}
use Rattle.source_subtypes.specs.View.{heads_of}
use Rattle.typed_nodes.specs.Seen.{seen}
use Rattle.operator_steps.proofs.ConditionalTypes.{choice_gives}
use Rattle.operator_steps.proofs.conditionals.choice.Goals as goal

pub returns-clause-ok : goal.returns-clause-ok
returns-clause-ok c =
    choice_gives (heads_of c.args.heads.now) c.args.at c.args.condition_span c.args.span (seen c.args.condition) (seen c.args.yes) (seen c.args.no) (shown c.in_ok-ty.ty) c.in_ok-ty.ensures.ok
    ∙ ap gives (sym c.in_ok-chosen.ensures)
