use Rattle.std.proofs.Common.{◌≡◌, map, drop}
use Rattle.je_table.specs.Rows.{row_said}
use Rattle.library_places.specs.Places.{is_row_of, place_from}
use Rattle.library_places.proofs.place.place_among.Given as goal

abbrev pub invariant-loop-place : goal.invariant-loop-place
invariant-loop-place l = place_from (is_row_of l.class l.is_field) l.place (map row_said (drop l.place l.rows)) l.before
    ≡ place_from (is_row_of l.fn.class l.fn.is_field) 0 (map row_said l.fn.rows) l.fn.at
