use Rattle.std.proofs.Common.{◌≡◌, ◌++◌, drop, map}
use Rattle.std.specs.Prelude.{flat_map}
use Rattle.class_typing.specs.Texts.{class_texts}
use Rattle.je_core.specs.View.{class_view}
use Rattle.program_tables.specs.way.Seen.{found_seen}
use Rattle.program_tables.proofs.classes.found_in.Given as goal

abbrev pub invariant-loop-class : goal.invariant-loop-class
invariant-loop-class l =
    map found_seen l.found.items ++ flat_map class_texts (map class_view (drop l.class-index l.classes))
    ≡ flat_map class_texts (map class_view l.classes)
