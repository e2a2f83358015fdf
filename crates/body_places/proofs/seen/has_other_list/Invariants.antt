use Rattle.std.proofs.Common.{◌≡◌, map, drop}
use Rattle.std.specs.List.{list_any}
use Rattle.name_types.specs.View.{shown}
use Rattle.name_typing.specs.Fields.{is_other_list}
use Rattle.body_places.proofs.seen.has_other_list.Given as goal

abbrev pub invariant-loop-other : goal.invariant-loop-other
invariant-loop-other l =
    list_any (is_other_list l.class.0 (shown l.ty)) (map shown (drop l.other-index l.types)) ≡ list_any (is_other_list l.class.0 (shown l.ty)) (map shown l.types)
