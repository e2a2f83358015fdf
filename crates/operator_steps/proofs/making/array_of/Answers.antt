use Rattle.std.proofs.Common.{map}
use Rattle.std.specs.Prelude.{option_map}
use Rattle.name_types.specs.View.{shown}
use Rattle.source_subtypes.specs.View.{heads_of}
use Rattle.typed_nodes.specs.Seen.{seen}
use Rattle.operator_steps.specs.Parts.{part_seen}
use Rattle.operator_steps.proofs.Initializing.{array_gives}
use Rattle.operator_steps.proofs.making.array_of.Goals as goal

pub returns-clause-ok : goal.returns-clause-ok
returns-clause-ok c =
    array_gives (heads_of c.args.heads.now) (shown c.args.ty) (option_map shown c.in_ok-element.element) c.args.span (map part_seen c.args.parts.items) (seen c.in_ok-whole.whole)
    c.in_ok-element.ensures c.in_ok-whole.ensures.ok
