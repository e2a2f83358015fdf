use Rattle.std.proofs.Common.{◌≡◌}
use Rattle.class_heads.specs.View.{classes_of}
use Rattle.class_methods.specs.View.{table_seen}
use Rattle.class_methods.specs.way.Rounds.{list_to, next_methods}
use Rattle.source_subtypes.specs.View.{heads_of}
use Rattle.class_methods.proofs.hierarchy.next_table.Given as goal

abbrev pub invariant-loop-at : goal.invariant-loop-at
invariant-loop-at l = table_seen l.next.items ≡ list_to (next_methods (heads_of l.heads) (classes_of l.classes) (table_seen l.table)) l.at
