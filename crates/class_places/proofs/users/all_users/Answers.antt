use Rattle.std.proofs.Common.{◌∙◌, map}
use Rattle.body_places.specs.View.{program_seen}
use Rattle.body_walks.specs.Seen.{met_seen}
use Rattle.class_places.proofs.Near.{are_users}
use Rattle.class_places.proofs.users.all_users.Goals as goal

pub returns : goal.returns
returns c = are_users (program_seen c.args.program.now) (map met_seen c.args.met.now) c.in_ok-users.users c.add_round.new.users c.add_below.new.users c.add_makers.new.users
    c.in_ok-users.ensures.empty (c.in_ok-users.ensures.whole ∙ c.len.ensures.count) c.in_ok-add_round.ensures c.in_ok-add_below.ensures c.in_ok-add_makers.ensures
