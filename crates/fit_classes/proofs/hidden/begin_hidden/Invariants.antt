use Rattle.std.proofs.Common.{◌≡◌, drop, map, take}
use Rattle.std.specs.List.{list_all}
use Rattle.je_core.specs.View.{field_view}
use Rattle.je_fitting.specs.Classes.{is_hidden}
use Rattle.fit_classes.proofs.hidden.begin_hidden.Given as goal

abbrev pub invariant-loop-field : goal.invariant-loop-field
invariant-loop-field l = list_all is_hidden (take l.left (map field_view (drop l.field-index l.fields))) ≡ list_all is_hidden (take l.fn.count (map field_view l.fields))
