use Rattle.std.proofs.Common.{◌≡◌, drop}
use Rattle.name_types.specs.View.{all_shown}
use Rattle.je_typing.specs.Castable.{some_are_distinct}
use Rattle.reference_tests.proofs.arguments.some_are_distinct.Given as goal

abbrev pub invariant-loop-ty : goal.invariant-loop-ty
invariant-loop-ty l =
    some_are_distinct (all_shown (drop l.ty-index l.types)) (all_shown l.left) ≡ some_are_distinct (all_shown l.types) (all_shown l.others)
