use Rattle.std.proofs.Common.{rules, ap, ◌∙◌}
use Rattle.std.specs.Option.{unwrap_or}
use Rattle.class_bridges.proofs.Steps.{written}
use Rattle.class_bridges.proofs.finding.add.Goals as goal

pub returns : goal.returns
returns c =
    written c.args.found.now _ _ c.args.at c.or_insert.result.now c.args.by (c.in_ok-found.ensures.update.0 c.or_insert.result.now).0 (search rules)
    (c.or_insert.ensures.value ∙ ap (λ o. unwrap_or o c.args.by) c.in_ok-found.ensures.value)
