use Rattle.std.proofs.Common.{◌≡◌, drop, map}
use Rattle.std.specs.List.{list_any}
use Rattle.je_core.specs.View.{field_view}
use Rattle.je_types.specs.Views.{program_of}
use Rattle.taming_db.specs.View.{rows}
use Rattle.inner_capture.specs.InnerCapture.{is_other}
use Rattle.inner_capture.proofs.enclosing.one_is_other.Given as goal

abbrev pub invariant-loop-field : goal.invariant-loop-field
invariant-loop-field l = list_any (is_other (program_of l.typed) (rows l.taming) l.marker) (map field_view (drop l.field-index l.fields)) ≡ list_any (is_other (program_of l.typed) (rows l.taming) l.marker) (map field_view l.fields)
