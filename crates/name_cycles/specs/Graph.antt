-- Which classes a class depends on, as a graph.
use Rattle.std.specs.Prelude.{◌≡◌, ℕ, List, [], length, Option, Some, None, slice_get}
use Rattle.std.specs.declared.vec.Vec.{Vec}
use Rattle.std.specs.declared.alloc.Global.{Global}
use Rattle.je_core.specs.declared.types.ClassId.{ClassId}
use Rattle.je_scopes.specs.Source.{Source}
use Rattle.je_scopes.specs.Settled.{dependences}
use Rattle.name_cycles.specs.declared.cycles.Dependences.{Dependences}
use Rattle.name_lookup.specs.View.{numbers}

abbrev pub list_view : Option (Vec ClassId Global) → List ℕ
list_view None = []
list_view (Some ds) = numbers ds.items

-- the classes to which a class leads directly
unfoldable pub depends_on : Dependences → ℕ → List ℕ
depends_on g c = list_view (slice_get g.lists.items c)

-- It says of each class of the program on which classes it directly depends.
pub record AreDependencesOf (p : Source) (g : Dependences) : Type 0 where
  pub whole : length g.lists.items ≡ length p.sites
  pub right : (c : ℕ) → depends_on g c ≡ dependences p c
