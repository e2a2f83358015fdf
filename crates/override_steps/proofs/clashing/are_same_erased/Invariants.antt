use Rattle.std.proofs.Common.{◌≡◌, drop, map}
use Rattle.je_classes.specs.Subtypes.{same_types}
use Rattle.name_types.specs.View.{shown}
use Rattle.source_subtypes.specs.View.{heads_of}
use Rattle.source_types.specs.Erasure.{erased}
use Rattle.override_steps.proofs.clashing.are_same_erased.Given as goal

abbrev pub invariant-loop-ty : goal.invariant-loop-ty
invariant-loop-ty l =
    same_types (map (erased (heads_of l.heads)) (map shown (drop l.ty-index l.types))) (map (erased (heads_of l.heads)) (map shown l.left))
    ≡ same_types (map (erased (heads_of l.heads)) (map shown l.types)) (map (erased (heads_of l.heads)) (map shown l.others))
