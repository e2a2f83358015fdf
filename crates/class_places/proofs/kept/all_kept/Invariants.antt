use Rattle.std.proofs.Common.{map}
use Rattle.body_places.specs.View.{program_seen}
use Rattle.body_walks.specs.Seen.{met_seen}
use Rattle.class_places.specs.way.Kept.{IsSoFar}
use Rattle.class_places.proofs.kept.all_kept.Given as goal

abbrev pub invariant-loop : goal.invariant-loop
invariant-loop l = IsSoFar (program_seen l.program) (map met_seen l.met) l.users l.counter l.start l.all.keys
