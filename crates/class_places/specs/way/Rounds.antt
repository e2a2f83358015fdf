-- Classes outwards, one by one.
use Rattle.std.specs.Prelude.{ℕ, List, [], ◌∷◌, Option, Some, None}
use Rattle.je_scopes.specs.Sites.{Site}
use Rattle.name_typing.specs.Program.{Frame}
use Rattle.name_walk.specs.View.{context_view}
use Rattle.class_typing.specs.Places.{in_body, member_frame, round_class, round_without_locals}
use Rattle.class_places.specs.declared.rounds.Round.{Round}

abbrev pub class_in : Option Round → Option ℕ
class_in None = None
class_in (Some r) = Some r.class.0

abbrev pub body_seen : Round → Frame
body_seen r = member_frame r.class.0 (context_view r.context) None []

abbrev pub in_body_from : List Site → Option ℕ → Option ℕ
in_body_from sites None = None
in_body_from sites (Some c) = in_body sites c

-- that body, and what is round its class
abbrev pub round_behind : List Site → List Frame → Option Round → List Frame
round_behind sites given None = given
round_behind sites given (Some r) = body_seen r ∷ round_class sites given r.class.0

abbrev pub without_behind : List Site → Option Round → List Frame
without_behind sites None = []
without_behind sites (Some r) = body_seen r ∷ round_without_locals sites r.class.0
