use Rattle.body_places.specs.View.{program_seen}
use Rattle.class_places.specs.way.Kept.{Gains, IsHandedOn}
use Rattle.class_places.proofs.kept.add_step.Given as goal

abbrev pub invariant-loop-at : goal.invariant-loop-at
invariant-loop-at l = Gains (program_seen l.program) (IsHandedOn l.users l.initial.all.keys l.start l.at) l.initial.all.keys l.all.keys
