use Rattle.std.proofs.Common.{◌≡◌, map, drop}
use Rattle.std.specs.List.{list_any}
use Rattle.name_types.specs.View.{shown}
use Rattle.header_typing.specs.Supers.{has_two_lists, is_other_of}
use Rattle.header_steps.proofs.supers.has_two_lists.Given as goal

abbrev pub invariant-loop-at : goal.invariant-loop-at
invariant-loop-at l =
    list_any (λ t. list_any (is_other_of t) (map shown l.types)) (map shown (drop l.at l.types)) ≡ has_two_lists (map shown l.types)
