use Rattle.std.proofs.Common.{◌≡◌, drop, map}
use Rattle.declarations.specs.View.{field_shown}
use Rattle.name_typing.specs.Fields.{field_from}
use Rattle.body_places.proofs.declared.place_among.Given as goal

abbrev pub invariant-loop-at : goal.invariant-loop-at
invariant-loop-at l = field_from l.fn.class.0 l.at (map field_shown (drop l.at l.fields)) l.name ≡ field_from l.fn.class.0 0 (map field_shown l.fields) l.name
