use Rattle.std.proofs.Common.{◌≡◌}
use Rattle.class_typing.specs.Programs.{all_with_methods}
use Rattle.declarations.specs.View.{class_shown}
use Rattle.program_tables.specs.way.Texts.{with_texts}
use Rattle.program_tables.proofs.Each.{written_to}
use Rattle.program_tables.proofs.enums.add_to_each.Given as goal

abbrev pub invariant-loop-at : goal.invariant-loop-at
invariant-loop-at l =
    written_to class_shown (all_with_methods (with_texts l.names)) l.at l.classes
    ≡ written_to class_shown (all_with_methods (with_texts l.names)) l.first l.fn.classes
