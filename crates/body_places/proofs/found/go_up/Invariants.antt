use Rattle.std.proofs.Common.{◌≡◌, ℕ, suc, map, drop}
use Rattle.class_heads.specs.View.{classes_of}
use Rattle.je_classes.specs.Members.{joined}
use Rattle.member_lookup.specs.Founds.{found_seen}
use Rattle.name_types.specs.View.{shown}
use Rattle.source_subtypes.specs.View.{heads_of}
use Rattle.body_places.specs.way.Walk.{all_within}
use Rattle.body_places.proofs.found.go_up.Given as goal

abbrev pub invariant-loop-ty : goal.invariant-loop-ty
invariant-loop-ty l = (n : ℕ) →
    joined (found_seen l.level.found) (joined (all_within (heads_of l.heads) (classes_of l.classes) n l.name (map shown l.level.types.items))
    (all_within (heads_of l.heads) (classes_of l.classes) (suc n) l.name (map shown (drop l.ty-index l.types)))) ≡
    joined (found_seen l.fn.found) (all_within (heads_of l.heads) (classes_of l.classes) (suc n) l.name (map shown l.types))
