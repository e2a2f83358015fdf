use Rattle.std.proofs.Common.{map}
use Rattle.toml.specs.View.{items_view}
use Rattle.taming_db.specs.TableView.{row_view}
use Rattle.taming_db.proofs.Tame.{rows_tame}
use Rattle.taming_db.proofs.reader.read_document.Goals as goal

pub invariant_of-result : goal.invariant_of-result
invariant_of-result c = record { tame = rows_tame (items_view c.in-Some.tables.now) (map row_view c.in_ok-read_tables-in-Some.field-0.items) c.in_ok-read_tables-in-Some.ensures.ok }
