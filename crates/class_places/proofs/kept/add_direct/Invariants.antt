use Rattle.std.proofs.Common.{take, map}
use Rattle.body_places.specs.View.{program_seen}
use Rattle.body_walks.specs.Seen.{met_seen}
use Rattle.class_places.specs.way.Kept.{Gains, IsDirect}
use Rattle.class_places.proofs.kept.add_direct.Given as goal

abbrev pub invariant-loop-one : goal.invariant-loop-one
invariant-loop-one l = Gains (program_seen l.program) (IsDirect (map met_seen (take l.one-index l.met))) l.initial.all.keys l.all.keys
