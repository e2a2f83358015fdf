-- Tables and rows in memory as contracts see them.
use Rattle.std.specs.Prelude.{map, string_bytes}
use Rattle.taming_db.specs.declared.table.Table as memory
use Rattle.taming_db.specs.declared.taming.Row as memory_row
use Rattle.taming_db.specs.Shape.{Table}
use Rattle.taming_db.specs.Rows.{Row}

abbrev pub table_view : memory.Table → Table
table_view t = record { name = string_bytes t.name; honorary = t.honorary.items; extend = t.extend; enable = map string_bytes t.enable.items }

abbrev pub row_view : memory_row.Row → Row
row_view r = record { class = r.class; honorary = r.honorary.items; extend = r.extend; enable = r.enable.items }
