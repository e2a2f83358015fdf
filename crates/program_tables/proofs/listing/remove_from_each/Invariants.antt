use Rattle.std.proofs.Common.{◌≡◌}
use Rattle.declarations.specs.View.{class_shown}
use Rattle.program_tables.specs.Counts.{without_first}
use Rattle.program_tables.proofs.Each.{written_to}
use Rattle.program_tables.proofs.listing.remove_from_each.Given as goal

abbrev pub invariant-loop-at : goal.invariant-loop-at
invariant-loop-at l =
    written_to class_shown (without_first l.counts) l.at l.classes
    ≡ written_to class_shown (without_first l.counts) 0 l.fn.classes
