use Rattle.std.proofs.Common.{◌≡◌, map, drop}
use Rattle.std.specs.List.{list_any}
use Rattle.name_types.specs.View.{shown}
use Rattle.header_typing.specs.Supers.{is_of_class}
use Rattle.header_steps.proofs.supers.is_among.Given as goal

abbrev pub invariant-loop-at : goal.invariant-loop-at
invariant-loop-at l = list_any (is_of_class (shown l.ty)) (map shown (drop l.at l.types)) ≡ list_any (is_of_class (shown l.ty)) (map shown l.types)
