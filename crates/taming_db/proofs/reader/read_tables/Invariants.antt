use Rattle.std.proofs.Common.{◌≡◌, ◌+◌, [], drop, map}
use Rattle.toml.specs.View.{items_view}
use Rattle.taming_db.specs.Rows.{rows_from}
use Rattle.taming_db.specs.View.{row_view}
use Rattle.taming_db.proofs.reader.read_tables.Given as goal

-- the tables that are left are judged behind the rows so far
abbrev pub invariant-loop-before : goal.invariant-loop-before
invariant-loop-before l =
    rows_from (l.before + 1) (map row_view l.rows.items) (items_view (drop l.before l.tables)) ≡ rows_from 1 [] (items_view l.tables)
