-- What contracts see of what is known of all classes.
use Rattle.std.specs.Prelude.{ℕ, List, [], map, Option, Some, None, slice_get}
use Rattle.std.specs.declared.vec.Vec.{Vec}
use Rattle.std.specs.declared.alloc.Global.{Global}
use Rattle.name_typing.specs.Program as program
use Rattle.body_typing.specs.Expressions as expressions
use Rattle.class_typing.specs.Captures.{captures}
use Rattle.class_typing.specs.Programs as programs
use Rattle.body_places.specs.declared.place.Frame.{Frame}
use Rattle.body_places.specs.Places.{frame_seen, local_seen}
use Rattle.body_scopes.specs.View.{blank_seen}
use Rattle.core_making.specs.declared.known.CapturedLocal.{CapturedLocal}
use Rattle.core_making.specs.declared.known.Known.{Known}

abbrev pub captured_local_seen : CapturedLocal → programs.CapturedLocal
captured_local_seen l = record { owner = l.owner.0; variable = local_seen l.variable }

abbrev pub locals_in : Option (Vec CapturedLocal Global) → List programs.CapturedLocal
locals_in None = []
locals_in (Some locals) = map captured_local_seen locals.items

-- the locals that a class captures; none past the last
abbrev pub captured_seen : List (Vec CapturedLocal Global) → ℕ → List programs.CapturedLocal
captured_seen captured c = locals_in (slice_get captured c)

abbrev pub frames_in : Option (Vec Frame Global) → List program.Frame
frames_in None = []
frames_in (Some frames) = map frame_seen frames.items

-- the bodies round a class; none past the last
abbrev pub round_seen : List (Vec Frame Global) → ℕ → List program.Frame
round_seen round c = frames_in (slice_get round c)

unfoldable pub known_seen : program.Program → Known → expressions.Known
known_seen p k = record {
  captures = captures p (captured_seen k.captured.now) (round_seen k.round.now);
  is_blank = blank_seen k.blank.now;
}
