use Rattle.std.proofs.Common.{◌≡◌, map, drop}
use Rattle.std.specs.List.{list_any}
use Rattle.name_types.specs.View.{shown}
use Rattle.header_typing.specs.Supers.{is_other_of}
use Rattle.header_steps.proofs.supers.has_other.Given as goal

abbrev pub invariant-loop-at : goal.invariant-loop-at
invariant-loop-at l = list_any (is_other_of (shown l.ty)) (map shown (drop l.at l.types)) ≡ list_any (is_other_of (shown l.ty)) (map shown l.types)
