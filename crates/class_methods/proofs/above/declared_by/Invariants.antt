use Rattle.std.proofs.Common.{◌≡◌, ◌++◌, drop, map}
use Rattle.std.specs.List.{flat_map}
use Rattle.class_heads.specs.View.{classes_of}
use Rattle.name_types.specs.View.{shown}
use Rattle.overriding.specs.Methods.{own, seen_in}
use Rattle.class_methods.specs.View.{method_seen}
use Rattle.class_methods.proofs.above.declared_by.Given as goal

abbrev pub invariant-loop-at : goal.invariant-loop-at
invariant-loop-at l =
    map method_seen l.methods.items ++ flat_map (seen_in (own (classes_of l.classes))) (map shown (drop l.at l.types))
    ≡ flat_map (seen_in (own (classes_of l.classes))) (map shown l.types)
