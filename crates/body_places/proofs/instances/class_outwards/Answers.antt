use Rattle.std.proofs.Common.{◌-◌, length, Some, None, refl}
use Rattle.std.proofs.lemmas.Option.{slice_get_past, slice_get_read}
use Rattle.body_places.specs.Places.{frame_seen}
use Rattle.body_places.proofs.Frames.{class_further}
use Rattle.body_places.proofs.instances.class_outwards.Goals as goal

pub returns-in-Some : goal.returns-in-Some
returns-in-Some c = class_further (frame_seen c.args.place.here.now) c.args.place.round.now c.args.outwards (Some c.in-Some.frame.now) c.if-outwards-eq0.false
    (slice_get_read c.args.place.round.now (length c.args.place.round.now) (c.args.outwards - 1) c.in-Some.frame.now refl c.in-Some.ensures.lookup.3.0 c.in-Some.ensures.lookup.1)

pub returns-in-None : goal.returns-in-None
returns-in-None c = class_further (frame_seen c.args.place.here.now) c.args.place.round.now c.args.outwards None c.if-outwards-eq0.false
    (slice_get_past c.args.place.round.now (c.args.outwards - 1) c.in-None.ensures.lookup.3)
