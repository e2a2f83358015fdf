use Rattle.std.proofs.Common.{◌≡◌, ◌++◌, drop, map}
use Rattle.std.specs.Prelude.{flat_map}
use Rattle.class_typing.specs.Texts.{initializer_texts}
use Rattle.je_core.specs.View.{initializer_view}
use Rattle.program_tables.specs.way.Seen.{found_seen}
use Rattle.program_tables.proofs.classes.walk_initializers.Given as goal

abbrev pub invariant-loop-initializer : goal.invariant-loop-initializer
invariant-loop-initializer l =
    map found_seen l.found.items ++ flat_map initializer_texts (map initializer_view (drop l.initializer-index l.initializers))
    ≡ map found_seen l.fn.found.items ++ flat_map initializer_texts (map initializer_view l.initializers)
