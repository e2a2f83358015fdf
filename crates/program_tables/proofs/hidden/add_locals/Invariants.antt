use Rattle.std.proofs.Common.{◌≡◌, ◌++◌, drop, map}
use Rattle.class_typing.specs.Programs.{captured_type, hidden_field}
use Rattle.declarations.specs.View.{field_shown}
use Rattle.core_making.specs.Known.{captured_local_seen}
use Rattle.type_faults.specs.Program.{source_in}
use Rattle.program_tables.proofs.hidden.add_locals.Given as goal

abbrev pub invariant-loop-local : goal.invariant-loop-local
invariant-loop-local l =
    map field_shown l.fields.items
    ++ map (hidden_field (source_in l.layout.source))
    (map (captured_type (source_in l.layout.source)) (map captured_local_seen (drop l.local-index l.locals)))
    ≡ map field_shown l.fn.fields.items
    ++ map (hidden_field (source_in l.layout.source))
    (map (captured_type (source_in l.layout.source)) (map captured_local_seen l.locals))
