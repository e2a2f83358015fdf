use Rattle.std.proofs.Common.{◌-◌, map, arith}
use Rattle.class_heads.specs.View.{classes_of}
use Rattle.member_lookup.specs.Founds.{found_seen}
use Rattle.name_types.specs.View.{shown}
use Rattle.source_subtypes.specs.View.{heads_of}
use Rattle.source_types.specs.Supertypes.{most_steps}
use Rattle.body_places.proofs.Levels.{at_top}
use Rattle.body_places.proofs.found.inherited.Goals as goal

pub returns : goal.returns
returns c = at_top (heads_of c.args.heads.now) (classes_of c.args.classes) c.args.name (found_seen c.loop.level.found) _ (most_steps (heads_of c.args.heads.now) - c.loop.counter)
    (map shown c.loop.level.types.items) (omega (arith, c.most_steps-end.ensures)) c.loop.invariant
