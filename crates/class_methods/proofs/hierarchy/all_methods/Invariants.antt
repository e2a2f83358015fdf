use Rattle.class_heads.specs.View.{classes_of}
use Rattle.class_methods.specs.View.{table_seen}
use Rattle.class_methods.specs.way.Rounds.{AfterRounds}
use Rattle.source_subtypes.specs.View.{heads_of}
use Rattle.class_methods.proofs.hierarchy.all_methods.Given as goal

abbrev pub invariant-loop : goal.invariant-loop
invariant-loop l = AfterRounds (heads_of l.heads) (classes_of l.classes) l.counter (table_seen l.table.items) l.settled.items
