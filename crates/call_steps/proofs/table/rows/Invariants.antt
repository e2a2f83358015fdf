use Rattle.std.proofs.Common.{◌≡◌}
use Rattle.class_heads.specs.View.{classes_of}
use Rattle.class_methods.specs.View.{table_seen}
use Rattle.class_methods.specs.way.Rounds.{list_to}
use Rattle.overriding.specs.Overrides.{has_methods}
use Rattle.source_subtypes.specs.View.{heads_of}
use Rattle.call_steps.proofs.table.rows.Given as goal

abbrev pub invariant-loop-at : goal.invariant-loop-at
invariant-loop-at l = table_seen l.rows.items ≡ list_to (has_methods (heads_of l.heads) (classes_of l.classes)) l.at
