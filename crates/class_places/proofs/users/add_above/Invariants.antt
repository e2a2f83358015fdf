use Rattle.std.proofs.Common.{take, map}
use Rattle.name_types.specs.View.{shown}
use Rattle.class_places.specs.way.Users.{Adds, IsUnder}
use Rattle.class_places.proofs.users.add_above.Given as goal

abbrev pub invariant-loop-ty : goal.invariant-loop-ty
invariant-loop-ty l = Adds (IsUnder (map shown (take l.ty-index l.types)) l.class.0) l.initial.users l.users
