use Rattle.std.proofs.Common.{ap, ◌∙◌}
use Rattle.program_tables.specs.Counts.{without_first}
use Rattle.program_tables.proofs.HiddenFields.{without_hidden}
use Rattle.program_tables.proofs.listing.remove_hidden_fields.Goals as goal

pub returns-clause-inverse : goal.returns-clause-inverse
returns-clause-inverse c =
    λ source captured before each old. c.remove_from_each.ensures
    ∙ ap (without_first c.args.counts.now 0) old
    ∙ without_hidden source captured c.args.counts.now each 0 before
