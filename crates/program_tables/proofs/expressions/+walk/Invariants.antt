use Rattle.std.proofs.Common.{◌≡◌, ◌++◌, drop, map}
use Rattle.class_typing.specs.Texts.{texts_all}
use Rattle.je_core.specs.Core.{cores}
use Rattle.je_core.specs.View.{views}
use Rattle.program_tables.specs.way.Seen.{found_seen}
use Rattle.program_tables.proofs.expressions.+walk.Given as goal

abbrev pub invariant-walk_all-loop-part : goal.invariant-walk_all-loop-part
invariant-walk_all-loop-part l =
    map found_seen l.found.items ++ texts_all (cores (views (drop l.part-index l.parts)))
    ≡ map found_seen l.fn.found.items ++ texts_all (cores (views l.parts))
