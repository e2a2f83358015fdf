use Rattle.std.proofs.Common.{◌≡◌, drop, map}
use Rattle.name_types.specs.View.{shown}
use Rattle.overriding.specs.Methods.{are_same_types, erasure}
use Rattle.source_subtypes.specs.View.{heads_of}
use Rattle.class_methods.proofs.signatures.are_erasures.Given as goal

abbrev pub invariant-loop-ty : goal.invariant-loop-ty
invariant-loop-ty l =
    are_same_types (map shown (drop l.ty-index l.types)) (map (erasure (heads_of l.heads)) (map shown l.left))
    ≡ are_same_types (map shown l.types) (map (erasure (heads_of l.heads)) (map shown l.others))
