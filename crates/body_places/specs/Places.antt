-- What contracts see of places in bodies.
use Rattle.std.specs.Prelude.{map, option_map}
use Rattle.name_lookup.specs.View.{numbers}
use Rattle.name_types.specs.View.{shown}
use Rattle.name_walk.specs.View.{context_view}
use Rattle.name_typing.specs.Program as words
use Rattle.body_places.specs.declared.place.Frame.{Frame}
use Rattle.body_places.specs.declared.place.Initializer.{Initializer}
use Rattle.body_places.specs.declared.place.LocalVariable.{LocalVariable}
use Rattle.body_places.specs.declared.place.Place.{Place}
use Rattle.body_places.specs.Tables.{constant_seen}

abbrev pub local_seen : LocalVariable → words.LocalVariable
local_seen v = record { name = v.name; type = shown v.ty; is_final = v.is_final; number = v.number; constant = option_map constant_seen v.constant }

abbrev pub initializer_seen : Initializer → words.Initializer
initializer_seen i = record { is_static = i.is_static; declared = i.declared }

abbrev pub frame_seen : Frame → words.Frame
frame_seen f = record {
  class = f.class.0;
  locals = map local_seen f.locals.items;
  local_classes = numbers f.local_classes.items;
  context = context_view f.context;
  initializer = option_map initializer_seen f.initializer;
}

abbrev pub place_seen : Place → words.Place
place_seen p = record { here = frame_seen p.here.now; round = map frame_seen p.round.now }
