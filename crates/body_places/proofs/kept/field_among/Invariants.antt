use Rattle.std.proofs.Common.{◌≡◌, drop}
use Rattle.body_places.specs.Tables.{field_from}
use Rattle.body_places.proofs.kept.field_among.Given as goal

abbrev pub invariant-loop-field : goal.invariant-loop-field
invariant-loop-field l = field_from (drop l.field-index l.fields) l.past l.owner.0 l.local ≡ field_from l.fields l.past l.owner.0 l.local
