use Rattle.std.proofs.Common.{◌≡◌, drop, map}
use Rattle.std.specs.Prelude.{not}
use Rattle.std.specs.List.{list_all}
use Rattle.name_types.specs.View.{shown}
use Rattle.je_typing.specs.Castable.{are_distinct}
use Rattle.reference_tests.proofs.arguments.are_consistent.Given as goal

abbrev pub invariant-loop-ty : goal.invariant-loop-ty
invariant-loop-ty l =
    list_all (λ u. list_all (λ v. not (are_distinct u v)) (map shown l.others)) (map shown (drop l.ty-index l.types)) ≡
    list_all (λ u. list_all (λ v. not (are_distinct u v)) (map shown l.others)) (map shown l.types)
