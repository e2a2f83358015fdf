-- The fields for captured locals, one behind the other.
use Rattle.std.specs.Prelude.{ℕ, suc, List, [], ◌∷◌}
use Rattle.std.specs.declared.alloc.Global.{Global}
use Rattle.std.specs.declared.vec.Vec.{Vec}
use Rattle.je_scopes.specs.Source.{Source}
use Rattle.class_typing.specs.Programs.{outer_count}
use Rattle.body_places.specs.declared.tables.Captured.{Captured}
use Rattle.core_making.specs.declared.known.CapturedLocal.{CapturedLocal}

-- of locals of which the first has this field
abbrev pub places_from : ℕ → List CapturedLocal → List Captured
places_from n [] = []
places_from n (l ∷ ls) = record { owner = l.owner; local = l.variable.number; field = n } ∷ places_from (suc n) ls

-- of classes of which the first has this number
abbrev pub all_places : Source → ℕ → List (Vec CapturedLocal Global) → List (List Captured)
all_places source c [] = []
all_places source c (ls ∷ rest) = places_from (outer_count source c) ls.items ∷ all_places source (suc c) rest
