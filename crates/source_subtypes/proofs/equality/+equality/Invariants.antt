use Rattle.std.proofs.Common.{◌≡◌, drop}
use Rattle.je_scopes.specs.SourceTypes.{same_source_types}
use Rattle.name_types.specs.View.{all_shown}
use Rattle.source_subtypes.proofs.equality.+equality.Given as goal

abbrev pub invariant-are_same-loop-ty : goal.invariant-are_same-loop-ty
invariant-are_same-loop-ty l =
    same_source_types (all_shown (drop l.ty-index l.types)) (all_shown l.left) ≡ same_source_types (all_shown l.types) (all_shown l.others)
