use Rattle.std.proofs.Common.{rules, ◌≡◌, sym, Some}
use Rattle.toml.specs.View.{view}
use Rattle.taming_db.specs.Shape.{table_of}
use Rattle.taming_db.specs.View.{table_view}
use Rattle.taming_db.proofs.judge.row.Goals as goal

pub returns-in-Some : goal.returns-in-Some
returns-in-Some c =
    let shaped : Some (table_view c.in-Some.table) ≡ table_of (view c.args.value.now) = search rules in
    rw (sym shaped) c.row_of_table.ensures
