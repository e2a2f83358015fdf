-- Where classes stand: the bodies round each one, by what was met in them (JLS 6.3, 8.1.3, 14.3, 15.9.5).
use Rattle.std.specs.Prelude.{ℕ, Bool, false, List, [], ◌∷◌, Option, Some, None, is_some, nat_eq, if◌then◌else◌}
use Rattle.std.specs.List.{find}
use Rattle.je_scopes.specs.Headers.{is_local_sort, site_at}
use Rattle.je_scopes.specs.Sites.{Context, Site}
use Rattle.name_typing.specs.Program.{Frame, Initializer, LocalVariable, frames}
use Rattle.body_typing.specs.Bodies.{Met, stands, stands_behind_new}

abbrev pub same_number : ℕ → Option ℕ → Bool
same_number c None = false
same_number c (Some d) = nat_eq c d

-- the body of a member, in which no locals are declared
abbrev pub member_frame : ℕ → Context → Option Initializer → List LocalVariable → Frame
member_frame c context initializer locals =
    record { class = c; locals = locals; local_classes = []; context = context; initializer = initializer }

-- ---- what was met of a class that stands in a body

abbrev pub class_standing : Met → Option ℕ
class_standing (stands c s) = Some c
class_standing (stands_behind_new c s word t es) = Some c
class_standing m = None

abbrev pub stands_at : ℕ → Met → Bool
stands_at c m = same_number c (class_standing m)

abbrev pub frames_met : Met → List Frame
frames_met (stands c s) = frames s.place
frames_met (stands_behind_new c s word t es) = frames s.place
frames_met m = []

module _ (sites : List Site) where
  -- ---- the class that stands in a body, of a class and those round it: the innermost that does

  abbrev pub is_in_body : ℕ → Bool
  is_in_body c = is_local_sort (site_at sites c).sort

  abbrev pub innermost_in_body : ℕ → List ℕ → Option ℕ
  innermost_in_body c [] = if is_in_body c then Some c else None
  innermost_in_body c (d ∷ ds) = if is_in_body c then Some c else innermost_in_body d ds

  unfoldable pub in_body : ℕ → Option ℕ
  in_body c = innermost_in_body c (site_at sites c).spot.round

  -- ---- the bodies round a class, by the classes round it: a member class stands in the class's own, which has no locals

  abbrev pub member_body : ℕ → ℕ → Frame
  member_body c d = member_frame d ((site_at sites c).spot.context) None []

  -- where no locals are known
  abbrev pub bodies_without_locals : ℕ → List ℕ → List Frame
  bodies_without_locals c [] = []
  bodies_without_locals c (d ∷ ds) = member_body c d ∷ bodies_without_locals d ds

  unfoldable pub round_without_locals : ℕ → List Frame
  round_without_locals c = bodies_without_locals c (site_at sites c).spot.round

  -- where those round the class that stands in a body are given
  abbrev pub bodies_round : List Frame → ℕ → List ℕ → List Frame
  bodies_round given c [] = given
  bodies_round given c (d ∷ ds) = if is_in_body c then given else member_body c d ∷ bodies_round given d ds

  unfoldable pub round_class : List Frame → ℕ → List Frame
  round_class given c = bodies_round given c (site_at sites c).spot.round

  -- ---- by what was met

  abbrev pub met_at : List Met → Option ℕ → Option Met
  met_at met None = None
  met_at met (Some c) = find (stands_at c) met

  -- what tells where a class stands
  abbrev pub placed_by : List Met → ℕ → Option Met
  placed_by met c = met_at met (in_body c)

  abbrev pub is_placed : List Met → ℕ → Bool
  is_placed met c = is_some (placed_by met c)

  -- where it isn't told, no locals are known
  abbrev pub round_if : Option Met → ℕ → List Frame
  round_if None c = round_without_locals c
  round_if (Some m) c = round_class (frames_met m) c

  unfoldable pub round_met : List Met → ℕ → List Frame
  round_met met c = round_if (placed_by met c) c
