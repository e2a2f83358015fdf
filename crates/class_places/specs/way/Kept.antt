-- The locals that classes capture, by their numbers.
use Rattle.std.specs.Prelude.{◌≡◌, ℕ, ◌<◌, ◌≤◌, Bool, true, List, ◌++◌, length, Some, slice_get, nat_eq}
use Rattle.std.specs.List.{Contains, list_any}
use Rattle.je_scopes.specs.Headers.{site_at}
use Rattle.name_typing.specs.Program.{Frame, Program}
use Rattle.body_typing.specs.Bodies.{Met, captures}
use Rattle.class_typing.specs.Captures.{captures_within}
use Rattle.class_places.specs.declared.kept.Kept.{Kept}
use Rattle.class_places.specs.declared.users.Users.{Users}
use Rattle.class_places.specs.way.Users.{users_of}

abbrev pub IsOutside : Program → Kept → Type 0
IsOutside p k = list_any (nat_eq k.owner.0) (site_at p.source.sites k.class.0).spot.round ≡ true

-- ---- what a class captures

abbrev pub Is : Kept → Kept → Type 0
Is one k = k ≡ one

abbrev pub IsDirect : List Met → Kept → Type 0
IsDirect met k = Contains met (captures k.class.0 k.owner.0 k.local)

-- by what another class captures, of which these are the users
pub record IsHandedTo (users : List ℕ) (one k : Kept) : Type 0 where
  pub user : Contains users k.class.0
  pub owner : k.owner ≡ one.owner
  pub local : k.local ≡ one.local

-- by one of those between two places
pub record IsHandedOn (u : Users) (keys : List Kept) (start end : ℕ) (k : Kept) : Type 0 where
  pub at : ℕ
  pub from : start ≤ at
  pub before : at < end
  pub one : Kept
  pub there : slice_get keys at ≡ Some one
  pub handed : IsHandedTo (users_of u one.class.0) one k

-- ---- the set of all in memory

-- those of a property more that are from outside their classes
pub record Gains (p : Program) (R : Kept → Type 0) (old new : List Kept) : Type 0 where
  pub added : List Kept
  pub longer : new ≡ old ++ added
  pub outside : (k : Kept) → Contains added k → IsOutside p k
  pub only : (k : Kept) → Contains added k → R k
  pub has : (k : Kept) → IsOutside p k → R k → Contains new k

abbrev pub captures_in : Program → List Met → (ℕ → List Frame) → ℕ → Kept → Bool
captures_in p met round n k = captures_within p met round n k.owner.0 k.local k.class.0

-- Those along ways of so many classes, of which those before a place were handed on.
pub record IsSoFar (p : Program) (met : List Met) (u : Users) (n start : ℕ) (keys : List Kept) : Type 0 where
  pub few : start ≤ length keys
  pub only : (round : ℕ → List Frame) (k : Kept) → Contains keys k → captures_in p met round n k ≡ true
  pub has : (round : ℕ → List Frame) (k : Kept) → captures_in p met round n k ≡ true → Contains keys k
  pub handed : (k : Kept) → IsOutside p k → IsHandedOn u keys 0 start k → Contains keys k

pub record AreAll (p : Program) (met : List Met) (keys : List Kept) : Type 0 where
  pub only :
      (round : ℕ → List Frame) (k : Kept) → Contains keys k → captures_in p met round (length p.source.sites) k ≡ true
  pub has :
      (round : ℕ → List Frame) (k : Kept) → captures_in p met round (length p.source.sites) k ≡ true → Contains keys k
