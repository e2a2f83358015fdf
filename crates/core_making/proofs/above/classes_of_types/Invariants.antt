use Rattle.std.proofs.Common.{◌≡◌, ◌++◌, drop, map}
use Rattle.name_types.specs.View.{shown}
use Rattle.class_typing.specs.Classes.{classes_of_types}
use Rattle.core_making.proofs.above.classes_of_types.Given as goal

abbrev pub invariant-loop-ty : goal.invariant-loop-ty
invariant-loop-ty l =
    l.classes.items ++ classes_of_types (map shown (drop l.ty-index l.types)) ≡ classes_of_types (map shown l.types)
