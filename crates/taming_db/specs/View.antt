-- A taming text in memory as contracts see it, with its tables and rows.
use Rattle.std.specs.Prelude.{List, map}
use Rattle.taming_db.specs.declared.taming.Taming.{Taming}
use Rattle.taming_db.specs.Rows.{Row}
pub use Rattle.taming_db.specs.TableView.{row_view, table_view}

-- what the taming text said
abbrev pub rows : Taming → List Row
rows t = map row_view t.rows.items
