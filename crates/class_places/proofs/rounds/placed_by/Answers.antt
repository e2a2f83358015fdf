use Rattle.std.proofs.Common.{length, map, ap, ◌∙◌}
use Rattle.name_sites.specs.View.{source_of}
use Rattle.class_typing.specs.Places.{met_at}
use Rattle.body_walks.specs.Seen.{met_seen}
use Rattle.class_places.proofs.Outwards.{stands_within}
use Rattle.class_places.proofs.rounds.placed_by.Goals as goal

pub returns : goal.returns
returns c =
    c.first.ensures (length (source_of c.args.sites.now).sites) c.requires
    (stands_within (source_of c.args.sites.now).sites c.args.class.0 c.in_ok-standing.standing.0 c.in_ok-standing.ensures)
    ∙ ap (met_at (source_of c.args.sites.now).sites (map met_seen c.args.met.now)) c.in_ok-standing.ensures
