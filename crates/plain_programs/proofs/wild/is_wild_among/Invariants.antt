use Rattle.std.proofs.Common.{◌≡◌, map, drop}
use Rattle.std.specs.Prelude.{filter, slice_get}
use Rattle.je_table.specs.Rows.{row_said}
use Rattle.plain_programs.specs.Wild.{is_method_row}
use Rattle.plain_programs.proofs.wild.is_wild_among.Given as goal

abbrev pub invariant-loop-row : goal.invariant-loop-row
invariant-loop-row l = slice_get (filter (is_method_row l.class) (map row_said (drop l.row-index l.rows))) l.before ≡ slice_get (filter (is_method_row l.fn.class) (map row_said l.fn.rows)) l.fn.at
