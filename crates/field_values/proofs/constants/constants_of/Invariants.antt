use Rattle.std.proofs.Common.{◌≡◌, map, option_map, take}
use Rattle.je_core.specs.View.{field_view}
use Rattle.body_places.specs.Tables.{constant_seen}
use Rattle.field_values.specs.way.Library.{constant_kept}
use Rattle.field_values.proofs.constants.constants_of.Given as goal

abbrev pub invariant-loop-field : goal.invariant-loop-field
invariant-loop-field l = map (option_map constant_seen) l.constants.items ≡ map constant_kept (map field_view (take l.field-index l.fields))
