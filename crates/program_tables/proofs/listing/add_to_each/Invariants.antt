use Rattle.std.proofs.Common.{◌≡◌}
use Rattle.class_typing.specs.Programs.{with_hidden}
use Rattle.declarations.specs.View.{class_shown}
use Rattle.core_making.specs.Known.{captured_seen}
use Rattle.type_faults.specs.Program.{source_in}
use Rattle.program_tables.proofs.Each.{written_to}
use Rattle.program_tables.proofs.listing.add_to_each.Given as goal

abbrev pub invariant-loop-at : goal.invariant-loop-at
invariant-loop-at l =
    written_to class_shown (with_hidden (source_in l.layout.source) (captured_seen l.layout.captured.now))
    l.at l.classes
    ≡ written_to class_shown (with_hidden (source_in l.layout.source) (captured_seen l.layout.captured.now))
    0 l.fn.classes
