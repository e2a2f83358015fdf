use Rattle.std.proofs.Common.{List, subst}
use Rattle.je_scopes.specs.SourceTypes.{SourceType}
use Rattle.body_places.specs.View.{program_seen}
use Rattle.class_places.specs.way.Users.{Adds, IsUnder}
use Rattle.class_places.proofs.Near.{below_one}
use Rattle.class_places.proofs.users.add_below.Goals as goal

pub loop-at-preserved : goal.loop-at-preserved
loop-at-preserved c = below_one (program_seen c.args.program.now) c.args.users.now c.loop-at.users c.add_above.new.users c.loop-at.at c.loop-at.invariant
    (subst (λ (ts : List SourceType). Adds (IsUnder ts c.loop-at.at) c.loop-at.users c.add_above.new.users) c.supers.ensures c.in_ok-add_above.ensures)
