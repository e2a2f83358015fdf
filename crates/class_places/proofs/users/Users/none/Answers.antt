use Rattle.class_places.specs.way.Users.{users_of}
use Rattle.class_places.proofs.users.Users.none.Goals as goal

pub returns-clause-empty : goal.returns-clause-empty
unfolding users_of
returns-clause-empty c = c.loop.invariant.empty
