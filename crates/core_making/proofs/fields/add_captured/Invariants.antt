use Rattle.std.proofs.Common.{◌≡◌, ◌++◌, drop, map}
use Rattle.je_core.specs.View.{field_view}
use Rattle.body_places.specs.View.{program_seen}
use Rattle.core_making.specs.Known.{captured_local_seen}
use Rattle.core_making.specs.way.HiddenFields.{captured_field}
use Rattle.core_making.proofs.fields.add_captured.Given as goal

abbrev pub invariant-loop-local : goal.invariant-loop-local
invariant-loop-local l =
    map field_view l.fields.items
    ++ map (captured_field (program_seen l.program) l.span) (map captured_local_seen (drop l.local-index l.captured))
    ≡ map field_view l.fn.fields.items ++ map (captured_field (program_seen l.program) l.span) (map captured_local_seen l.captured)
