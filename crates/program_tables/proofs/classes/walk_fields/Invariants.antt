use Rattle.std.proofs.Common.{◌≡◌, ◌++◌, drop, map}
use Rattle.std.specs.Prelude.{flat_map}
use Rattle.class_typing.specs.Texts.{field_texts}
use Rattle.je_core.specs.View.{field_view}
use Rattle.program_tables.specs.way.Seen.{found_seen}
use Rattle.program_tables.proofs.classes.walk_fields.Given as goal

abbrev pub invariant-loop-field : goal.invariant-loop-field
invariant-loop-field l =
    map found_seen l.found.items ++ flat_map field_texts (map field_view (drop l.field-index l.fields))
    ≡ map found_seen l.fn.found.items ++ flat_map field_texts (map field_view l.fields)
