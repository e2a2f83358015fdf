use Rattle.std.proofs.Common.{List, [], ◌∷◌, ◌++◌, map, sym, ap, ◌∙◌}
use Rattle.std.proofs.lemmas.List.{append-nil, map-append}
use Rattle.name_sites.specs.View.{source_of}
use Rattle.name_typing.specs.Program.{Frame}
use Rattle.body_places.specs.Places.{frame_seen}
use Rattle.class_typing.specs.Places.{round_without_locals}
use Rattle.class_places.specs.way.Rounds.{body_seen, without_behind}
use Rattle.class_places.proofs.Outwards.{goes_on, one_body}
use Rattle.class_places.proofs.rounds.round_without_locals.Goals as goal

pub loop-round-preserved : goal.loop-round-preserved
loop-round-preserved c =
    one_body (map frame_seen c.loop-round.bodies.items) (map frame_seen c.push.new.self.items) (body_seen c.in-Some.round)
    (round_without_locals (source_of c.args.sites.now).sites c.in-Some.round.class.0) _ _
    (ap (map frame_seen) c.in_ok-push.ensures.items ∙ map-append frame_seen c.loop-round.bodies.items (c.member_body.result ∷ [])
    ∙ ap (λ (f : Frame). map frame_seen c.loop-round.bodies.items ++ f ∷ []) c.member_body.ensures)
    (goes_on (source_of c.args.sites.now).sites c.loop-round.here.0 c.round_of.result c.round_of.ensures.round c.round_of.ensures.context
    ∙ ap (without_behind (source_of c.args.sites.now).sites) c.in-Some.is)
    c.loop-round.invariant

pub returns : goal.returns
returns c =
    sym (append-nil (map frame_seen c.loop-round.bodies.items))
    ∙ ap (λ (fs : List Frame). map frame_seen c.loop-round.bodies.items ++ fs) (sym
    (goes_on (source_of c.args.sites.now).sites c.loop-round.here.0 c.round_of.result c.round_of.ensures.round c.round_of.ensures.context
    ∙ ap (without_behind (source_of c.args.sites.now).sites) c.in_default.is))
    ∙ c.loop-round.invariant
