use Rattle.body_places.specs.View.{program_seen}
use Rattle.class_places.specs.way.Users.{Adds, IsBelow}
use Rattle.class_places.proofs.users.add_below.Given as goal

abbrev pub invariant-loop-at : goal.invariant-loop-at
invariant-loop-at l = Adds (IsBelow (program_seen l.program) l.at) l.initial.users l.users
