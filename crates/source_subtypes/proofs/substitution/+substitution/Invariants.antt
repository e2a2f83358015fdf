use Rattle.std.proofs.Common.{◌≡◌, map, take}
use Rattle.name_types.specs.View.{all_shown, shown}
use Rattle.source_types.specs.Substitution.{substituted}
use Rattle.source_subtypes.proofs.substitution.+substitution.Given as goal

abbrev pub invariant-all_substituted-loop-ty : goal.invariant-all_substituted-loop-ty
invariant-all_substituted-loop-ty l =
    map shown l.all.items ≡ map (substituted l.arguments.class.0 (all_shown l.arguments.types.now)) (map shown (take l.ty-index l.types))
