use Rattle.std.proofs.Common.{◌≡◌, ◌++◌, drop, map}
use Rattle.std.specs.Prelude.{flat_map}
use Rattle.class_typing.specs.Texts.{texts_of}
use Rattle.je_core.specs.View.{views}
use Rattle.program_tables.specs.way.Seen.{found_seen}
use Rattle.program_tables.proofs.statements.walk_steps.Given as goal

abbrev pub invariant-loop-step : goal.invariant-loop-step
invariant-loop-step l =
    map found_seen l.found.items ++ flat_map texts_of (views (drop l.step-index l.steps))
    ≡ map found_seen l.fn.found.items ++ flat_map texts_of (views l.steps)
