use Rattle.std.proofs.Common.{◌≡◌, map, option_map, take}
use Rattle.body_places.specs.Tables.{constant_seen}
use Rattle.type_decl.proofs.rows.is_same_row.Given as goal

abbrev pub invariant-loop-at : goal.invariant-loop-at
invariant-loop-at l = map (option_map constant_seen) (take l.at l.row) ≡ map (option_map constant_seen) (take l.at l.other)
