-- What contracts see of scopes, and of what is known of blank fields.
use Rattle.std.specs.Prelude.{◌≡◌, Bool, false, List, [], length, map, Option, Some, None, slice_get}
use Rattle.std.specs.declared.vec.Vec.{Vec}
use Rattle.std.specs.declared.alloc.Global.{Global}
use Rattle.je_classes.specs.Members.{Member}
use Rattle.body_typing.specs.FinalVariables as words
use Rattle.body_places.specs.Places.{frame_seen}
use Rattle.body_scopes.specs.declared.scope.Depth.{Depth}
use Rattle.body_scopes.specs.declared.scope.Scope.{Scope}

abbrev pub scope_seen : Scope → words.Scope
scope_seen s = record {
  place = record { here = frame_seen s.here; round = map frame_seen s.round.now };
  is_constructor = s.is_constructor;
  given = s.given.items;
}

-- so many locals, local classes, and final locals that have their value
pub record IsDepthOf (d : Depth) (s : words.Scope) : Type 0 where
  pub locals : d.locals ≡ length s.place.here.locals
  pub classes : d.classes ≡ length s.place.here.local_classes
  pub given : d.given ≡ length s.given

-- ---- blank fields, by what is known of each field of each class

abbrev pub flags_in : Option (Vec Bool Global) → List Bool
flags_in None = []
flags_in (Some flags) = flags.items

abbrev pub is_set : Option Bool → Bool
is_set None = false
is_set (Some b) = b

abbrev pub blank_seen : List (Vec Bool Global) → Member → Bool
blank_seen blank m = is_set (slice_get (flags_in (slice_get blank m.class.0)) m.at)
