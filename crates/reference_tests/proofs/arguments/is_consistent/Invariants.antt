use Rattle.std.proofs.Common.{◌≡◌, drop, map}
use Rattle.std.specs.Prelude.{not}
use Rattle.std.specs.List.{list_all}
use Rattle.name_types.specs.View.{shown}
use Rattle.je_typing.specs.Castable.{are_distinct}
use Rattle.reference_tests.proofs.arguments.is_consistent.Given as goal

abbrev pub invariant-loop-other : goal.invariant-loop-other
invariant-loop-other l =
    list_all (λ v. not (are_distinct (shown l.ty) v)) (map shown (drop l.other-index l.others)) ≡ list_all (λ v. not (are_distinct (shown l.ty) v)) (map shown l.others)
