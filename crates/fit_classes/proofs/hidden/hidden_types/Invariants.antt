use Rattle.std.proofs.Common.{◌≡◌, ◌++◌, drop, map, filter}
use Rattle.je_core.specs.View.{field_view}
use Rattle.je_fitting.specs.Classes.{is_hidden, field_types}
use Rattle.fit_classes.proofs.hidden.hidden_types.Given as goal

abbrev pub invariant-loop-field : goal.invariant-loop-field
invariant-loop-field l = l.types.items ++ field_types (filter is_hidden (map field_view (drop l.field-index l.fields))) ≡ field_types (filter is_hidden (map field_view l.fields))
