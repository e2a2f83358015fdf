use Rattle.std.proofs.Common.{◌≡◌, ◌-◌, map}
use Rattle.class_heads.specs.View.{classes_of}
use Rattle.je_classes.specs.Members.{joined}
use Rattle.member_lookup.specs.Founds.{found_seen}
use Rattle.name_types.specs.View.{shown}
use Rattle.source_subtypes.specs.View.{heads_of}
use Rattle.source_types.specs.Supertypes.{most_steps}
use Rattle.body_places.specs.way.Walk.{all_within}
use Rattle.body_places.proofs.found.inherited.Given as goal

abbrev pub invariant-loop : goal.invariant-loop
invariant-loop l =
    joined (found_seen l.level.found) (all_within (heads_of l.heads) (classes_of l.classes) (most_steps (heads_of l.heads) - l.counter) l.name (map shown l.level.types.items)) ≡
    all_within (heads_of l.heads) (classes_of l.classes) (most_steps (heads_of l.heads)) l.name (map shown l.initial.level.types.items)
