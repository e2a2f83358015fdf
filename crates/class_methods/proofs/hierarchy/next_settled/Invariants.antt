use Rattle.std.proofs.Common.{◌≡◌}
use Rattle.class_methods.specs.way.Rounds.{list_to, next_settled}
use Rattle.source_subtypes.specs.View.{heads_of}
use Rattle.class_methods.proofs.hierarchy.next_settled.Given as goal

abbrev pub invariant-loop-at : goal.invariant-loop-at
invariant-loop-at l = l.next.items ≡ list_to (next_settled (heads_of l.heads) l.settled) l.at
