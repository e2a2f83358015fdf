-- Captured locals (JLS 8.1.3), and what a new object gets from round its class (JLS 8.8.7.1, 15.9.2). A class
-- captures each local from outside it that a name in its body means and that is no constant, and each one that a
-- class inside it captures, or one of which its body makes objects, or one directly above it.
use Rattle.std.specs.Prelude.{ℕ, zero, suc, Bool, true, false, not, ◌&&◌, ◌||◌, List, [], ◌∷◌, ◌++◌, length, map, filter, flat_map, Option, Some, None, nat_eq, if◌then◌else◌}
use Rattle.std.specs.List.{list_any}
use Rattle.je_core.specs.declared.types.ClassId.{ClassId}
use Rattle.je_core.specs.Core.{CoreCapture}
use Rattle.je_scopes.specs.Faults.{below}
use Rattle.je_scopes.specs.Headers.{is_guest, is_interface_sort, site_at, within}
use Rattle.je_scopes.specs.SourceTypes.{SourceType, of_class}
use Rattle.source_types.specs.Erasure.{class_numbered}
use Rattle.source_types.specs.Heads.{supers_of}
use Rattle.header_typing.specs.Supers.{class_in}
use Rattle.name_typing.specs.Program.{Frame, Place, Program, frames}
use Rattle.body_typing.specs.Calls.{is_inner, is_round}
use Rattle.body_typing.specs.Bodies.{Met, makes}
use Rattle.body_typing.specs.Bodies as met_in
use Rattle.class_typing.specs.Places.{same_number}
use Rattle.class_typing.specs.Programs.{CapturedLocal}

abbrev pub reversed : {A : Type 0} → List A → List A
reversed [] = []
reversed (x ∷ xs) = reversed xs ++ x ∷ []

abbrev pub listed : {A : Type 0} → Option A → List A
listed None = []
listed (Some a) = a ∷ []

-- `met` is all that was met in bodies, and `round` gives the bodies round each class
module _ (p : Program) (met : List Met) (round : ℕ → List Frame) where
  -- ---- what the body of a class says

  abbrev pub is_capture : ℕ → ℕ → ℕ → Met → Bool
  is_capture c owner local (met_in.captures within of n) = nat_eq within c && nat_eq of owner && nat_eq n local
  is_capture c owner local m = false

  abbrev pub class_made : ℕ → Met → List ℕ
  class_made c (makes within d) = if nat_eq within c then d ∷ [] else []
  class_made c m = []

  abbrev pub is_directly_in : ℕ → ℕ → Bool
  is_directly_in c d = same_number c (within (site_at p.source.sites d))

  abbrev pub class_of_type : SourceType → List ℕ
  class_of_type t = listed (class_in t)

  -- the classes inside it, those of which it makes objects, and those directly above it
  abbrev pub classes_near : ℕ → List ℕ
  classes_near c =
      filter (is_directly_in c) (below (length p.source.sites))
      ++ flat_map (class_made c) met
      ++ flat_map class_of_type (supers_of p.heads c)

  -- ---- JLS 8.1.3

  abbrev pub is_outside : ℕ → ℕ → Bool
  is_outside c owner = list_any (nat_eq owner) (site_at p.source.sites c).spot.round

  -- whether a class captures a local, along a way of so many classes at most
  abbrev pub captures_within : ℕ → ℕ → ℕ → ℕ → Bool
  captures_within zero owner local c = false
  captures_within (suc n) owner local c =
      is_outside c owner
      && (list_any (is_capture c owner local) met
      || list_any (captures_within n owner local) (classes_near c))

  -- the locals in scope where a class stands, in order of their declarations
  abbrev pub locals_of_frame : Frame → List CapturedLocal
  locals_of_frame f = map (λ v. record { owner = f.class; variable = v }) (reversed f.locals)

  abbrev pub locals_round : ℕ → List CapturedLocal
  locals_round c = flat_map locals_of_frame (reversed (round c))

  abbrev pub is_captured : ℕ → CapturedLocal → Bool
  is_captured c l = captures_within (length p.source.sites) l.owner l.variable.number c

  unfoldable pub captured_locals : ℕ → List CapturedLocal
  captured_locals c = filter (is_captured c) (locals_round c)

-- ---- what a new object gets, where it is known what each class captures

module _ (p : Program) (captured : ℕ → List CapturedLocal) (round_of : ℕ → List Frame) where
  -- the way from an instance outwards to the first class round it for which this holds, by its outer fields
  abbrev pub way_until : (Frame → Bool) → List Frame → List (ClassId × ℕ)
  way_until test [] = []
  way_until test (f ∷ fs) = if test f then [] else (class_numbered f.class, p.outer f.class) ∷ way_until test fs

  abbrev pub outer_capture : ℕ → List (ClassId × ℕ) → List CoreCapture
  outer_capture c way =
      if is_inner p c then record { class = class_numbered c; field = p.outer c; local = None; path = way } ∷ [] else []

  -- a local of the body itself, or what the class of the body keeps of one further out
  abbrev pub own_or_kept : Place → CapturedLocal → Bool → ClassId → ℕ → CoreCapture
  own_or_kept place l true class field =
      record { class = class; field = field; local = Some l.variable.number; path = [] }
  own_or_kept place l false class field = record {
    class = class;
    field = field;
    local = None;
    path = (class_numbered place.here.class, kept_at) ∷ [];
  }
    where
      kept_at : ℕ
      kept_at = p.captured place.here.class l.owner l.variable.number

  abbrev pub local_captures : Place → ℕ → ℕ → List CapturedLocal → List CoreCapture
  local_captures place c field [] = []
  local_captures place c field (l ∷ ls) =
      own_or_kept place l (nat_eq place.here.class l.owner) (class_numbered c) field
      ∷ local_captures place c (suc field) ls

  abbrev pub own_captures : Place → ℕ → List (ClassId × ℕ) → List CoreCapture
  own_captures place c way = outer_capture c way ++ local_captures place c (length (outer_capture c way)) (captured c)

  abbrev pub is_guest_class : ℕ → Bool
  is_guest_class d = is_guest (site_at p.source.sites d).written && not (is_interface_sort (site_at p.source.sites d).sort)

  -- the class directly above one of a program, if it is one too
  abbrev pub first_class : List SourceType → Option ℕ
  first_class (of_class d args n ∷ ts) = if is_guest_class d then Some d else None
  first_class ts = None

  abbrev pub superclass : ℕ → Option ℕ
  superclass c = first_class (supers_of p.heads c)

  -- those of the classes above come first; the instance round such a class is looked for from the one round the class
  -- below it
  abbrev pub captures_upwards : ℕ → Place → Option ℕ → List (ClassId × ℕ) → List CoreCapture
  captures_upwards n place None way = []
  captures_upwards zero place (Some c) way = []
  captures_upwards (suc n) place (Some c) way =
      captures_upwards n place (superclass c) (way ++ way_above (superclass c)) ++ own_captures place c way
    where
      way_above : Option ℕ → List (ClassId × ℕ)
      way_above None = []
      way_above (Some d) = way_until (is_round p d) (round_of c)

  abbrev pub guest_captures : Place → ℕ → List CoreCapture
  guest_captures place c =
      captures_upwards (length p.source.sites) place (Some c) (way_until (is_round p c) (frames place))

  unfoldable pub captures : Place → ℕ → List CoreCapture
  captures place c =
      if is_guest (site_at p.source.sites c).written then guest_captures place c else []
