-- Which classes capture what a class captures.
use Rattle.std.specs.Prelude.{◌≡◌, ◌⊎◌, ℕ, ◌<◌, List, [], length, map, Option, Some, None, slice_get}
use Rattle.std.specs.List.{Contains}
use Rattle.std.specs.declared.vec.Vec.{Vec}
use Rattle.std.specs.declared.alloc.Global.{Global}
use Rattle.je_core.specs.declared.types.ClassId.{ClassId}
use Rattle.je_scopes.specs.Headers.{site_at, within}
use Rattle.je_scopes.specs.SourceTypes.{SourceType}
use Rattle.source_types.specs.Heads.{supers_of}
use Rattle.header_typing.specs.Supers.{class_in}
use Rattle.name_lookup.specs.View.{numbers}
use Rattle.name_typing.specs.Program.{Frame, Program}
use Rattle.body_typing.specs.Bodies.{Met, makes}
use Rattle.class_typing.specs.Captures.{classes_near}
use Rattle.class_places.specs.declared.users.Users.{Users}

abbrev pub list_in : Option (Vec ClassId Global) → List ℕ
list_in None = []
list_in (Some ds) = numbers ds.items

unfoldable pub users_of : Users → ℕ → List ℕ
users_of u c = list_in (slice_get u.lists.items c)

abbrev pub IsEmpty : Users → Type 0
IsEmpty u = (c : ℕ) → users_of u c ≡ []

-- ---- of which class another one is a user

abbrev pub IsPair : ℕ → ℕ → ℕ → ℕ → Type 0
IsPair class user c d = (c ≡ class) × (d ≡ user)

-- that directly round one of the first classes
abbrev pub IsRound : Program → ℕ → ℕ → ℕ → Type 0
IsRound p n c d = (c < n) × (within (site_at p.source.sites c) ≡ Some d)

-- one class, where these types stand above it
abbrev pub IsUnder : List SourceType → ℕ → ℕ → ℕ → Type 0
IsUnder types user c d = Contains (map class_in types) (Some c) × (d ≡ user)

-- those of the first classes that are directly below one
abbrev pub IsBelow : Program → ℕ → ℕ → ℕ → Type 0
IsBelow p n c d = (d < n) × Contains (map class_in (supers_of p.heads d)) (Some c)

abbrev pub IsMaker : List Met → ℕ → ℕ → Type 0
IsMaker met c d = Contains met (makes d c)

-- ---- users in memory

-- those of a relation more, among the classes that are there
pub record Adds (R : ℕ → ℕ → Type 0) (old new : Users) : Type 0 where
  pub whole : length new.lists.items ≡ length old.lists.items
  pub keeps : (c d : ℕ) → Contains (users_of old c) d → Contains (users_of new c) d
  pub has : (c d : ℕ) → c < length old.lists.items → R c d → Contains (users_of new c) d
  pub only : (c d : ℕ) → Contains (users_of new c) d → Contains (users_of old c) d ⊎ R c d

-- all users of all classes
pub record AreUsers (p : Program) (met : List Met) (u : Users) : Type 0 where
  pub only : (round : ℕ → List Frame) (c d : ℕ) → Contains (users_of u c) d → Contains (classes_near p met round d) c
  pub has :
      (round : ℕ → List Frame) (c d : ℕ) → c < length p.source.sites → d < length p.source.sites →
      Contains (classes_near p met round d) c → Contains (users_of u c) d
