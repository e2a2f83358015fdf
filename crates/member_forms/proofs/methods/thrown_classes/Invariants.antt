use Rattle.std.proofs.Common.{◌≡◌, ◌++◌, drop, map}
use Rattle.name_types.specs.View.{shown}
use Rattle.member_forms.specs.Walks.{thrown_classes}
use Rattle.member_forms.proofs.methods.thrown_classes.Given as goal

abbrev pub invariant-loop-ty : goal.invariant-loop-ty
invariant-loop-ty l =
    l.classes.items ++ thrown_classes l.walk (map shown (drop l.ty-index l.types)) ≡ thrown_classes l.walk (map shown l.types)
