use Rattle.std.proofs.Common.{take, map}
use Rattle.body_walks.specs.Seen.{met_seen}
use Rattle.class_places.specs.way.Users.{Adds, IsMaker}
use Rattle.class_places.proofs.users.add_makers.Given as goal

abbrev pub invariant-loop-one : goal.invariant-loop-one
invariant-loop-one l = Adds (IsMaker (map met_seen (take l.one-index l.met))) l.initial.users l.users
