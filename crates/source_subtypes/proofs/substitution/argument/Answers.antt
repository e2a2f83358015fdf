use Rattle.std.proofs.Common.{map, ◌∙◌}
use Rattle.name_types.specs.View.{shown}
use Rattle.source_subtypes.proofs.Putting.{argument-listed}
use Rattle.source_subtypes.proofs.substitution.argument.Goals as goal

pub returns : goal.returns
returns c = c.item.ensures ∙ argument-listed (map shown c.args.args.now) c.args.at
