-- The classes upwards from one, each with the way to the instance round it, and what a new object gets for each.
use Rattle.std.specs.Prelude.{ℕ, zero, suc, List, [], ◌∷◌, ◌++◌, Option, Some, None, if◌then◌else◌}
use Rattle.je_core.specs.declared.types.ClassId.{ClassId}
use Rattle.je_core.specs.Core.{CoreCapture}
use Rattle.call_typing.specs.Creations.{is_round}
use Rattle.name_typing.specs.Program.{Frame, Place, Program}
use Rattle.class_typing.specs.Captures.{is_guest_class, own_captures, superclass, way_until}
use Rattle.class_typing.specs.Programs.{CapturedLocal}

pub record Above : Type 0 where
  pub class : ℕ
  pub way : List (ClassId × ℕ)

module _ (p : Program) (captured : ℕ → List CapturedLocal) (round_of : ℕ → List Frame) where
  -- a class of the program that is no interface
  abbrev pub guest_if : Option ℕ → Option ℕ
  guest_if None = None
  guest_if (Some c) = if is_guest_class p captured round_of c then Some c else None

  -- from the instance round a class to the one round the class above it
  abbrev pub way_above : ℕ → Option ℕ → List (ClassId × ℕ)
  way_above c None = []
  way_above c (Some d) = way_until p captured round_of (is_round p d) (round_of c)

  abbrev pub upwards : ℕ → Option ℕ → List (ClassId × ℕ) → List Above
  upwards n None way = []
  upwards zero (Some c) way = []
  upwards (suc n) (Some c) way =
      record { class = c; way = way }
      ∷ upwards n (superclass p captured round_of c) (way ++ way_above c (superclass p captured round_of c))

  -- those of the classes above come first
  abbrev pub captures_of : Place → List Above → List CoreCapture
  captures_of place [] = []
  captures_of place (a ∷ rest) = captures_of place rest ++ own_captures p captured round_of place a.class a.way
