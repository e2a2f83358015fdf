use Rattle.std.proofs.Common.{◌≡◌, drop, map}
use Rattle.std.specs.List.{list_all}
use Rattle.name_types.specs.View.{shown}
use Rattle.class_methods.specs.way.Rounds.{is_settled}
use Rattle.class_methods.proofs.hierarchy.are_settled.Given as goal

abbrev pub invariant-loop-at : goal.invariant-loop-at
invariant-loop-at l =
    list_all (is_settled l.settled) (map shown (drop l.at l.types))
    ≡ list_all (is_settled l.settled) (map shown l.types)
