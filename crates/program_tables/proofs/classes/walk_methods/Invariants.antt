use Rattle.std.proofs.Common.{◌≡◌, ◌++◌, drop, map}
use Rattle.std.specs.Prelude.{flat_map}
use Rattle.class_typing.specs.Texts.{method_texts}
use Rattle.je_core.specs.View.{method_view}
use Rattle.program_tables.specs.way.Seen.{found_seen}
use Rattle.program_tables.proofs.classes.walk_methods.Given as goal

abbrev pub invariant-loop-method : goal.invariant-loop-method
invariant-loop-method l =
    map found_seen l.found.items ++ flat_map method_texts (map method_view (drop l.method-index l.methods))
    ≡ map found_seen l.fn.found.items ++ flat_map method_texts (map method_view l.methods)
