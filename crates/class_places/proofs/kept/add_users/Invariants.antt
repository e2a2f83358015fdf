use Rattle.std.proofs.Common.{take}
use Rattle.name_lookup.specs.View.{numbers}
use Rattle.body_places.specs.View.{program_seen}
use Rattle.class_places.specs.way.Kept.{Gains, IsHandedTo}
use Rattle.class_places.proofs.kept.add_users.Given as goal

abbrev pub invariant-loop-user : goal.invariant-loop-user
invariant-loop-user l = Gains (program_seen l.program) (IsHandedTo (numbers (take l.user-index l.users)) l.one) l.initial.all.keys l.all.keys
