use Rattle.std.specs.Prelude.{map}
use Rattle.body_places.specs.View.{program_seen}
use Rattle.body_walks.specs.Known.{round_seen}
use Rattle.body_walks.specs.Seen.{met_seen}
use Rattle.class_places.proofs.Ordered.{all_captured}
use Rattle.class_places.proofs.locals.captured_locals.Goals as goal

pub returns : goal.returns
returns c = all_captured (program_seen c.args.program.now) (map met_seen c.args.met.now) c.in_ok-all.all.keys c.in_ok-all.ensures (round_seen c.args.round.now)
    c.in_ok-lists.lists.items c.in_ok-lists.ensures.whole c.in_ok-lists.ensures.each
