-- An order of classes in which each stands behind the first of those above it.
use Rattle.std.specs.Prelude.{◌≡◌, ℕ, zero, suc, ◌<◌, ◌++◌, Bool, true, List, [], ◌∷◌, length, Option, Some, None, slice_get}
use Rattle.je_core.specs.declared.types.ClassId.{ClassId}
use Rattle.je_core.specs.Core.{CoreProgram}
use Rattle.je_classes.specs.Hierarchy.{supers_of}
use Rattle.je_classes.specs.Members.{In}
use Rattle.class_tables.specs.declared.order.Order.{Order}

abbrev pub first_in : List ClassId → Option ClassId
first_in [] = None
first_in (c ∷ cs) = Some c

-- the superclass of a class, or its first interface where it has none
abbrev pub first_super : CoreProgram → ClassId → Option ClassId
first_super p c = first_in (supers_of p c)

abbrev pub first_super_if : CoreProgram → Option ClassId → Option ClassId
first_super_if p None = None
first_super_if p (Some c) = first_super p c

-- so many first supers above a class
abbrev pub up : CoreProgram → ℕ → ClassId → Option ClassId
up p zero c = Some c
up p (suc n) c = first_super_if p (up p n c)

-- whether a class has its mark, as one has that isn't there
abbrev pub is_marked : Option Bool → Bool
is_marked None = true
is_marked (Some marked) = marked

-- a class of the program is in the list
abbrev pub IsThere : CoreProgram → List ClassId → ClassId → Type 0
IsThere p xs c = c.0 < length p.classes → In xs c

-- the first super of a class is in the list
abbrev pub IsReady : CoreProgram → List ClassId → ClassId → Type 0
IsReady p xs c = (d : ClassId) → first_super p c ≡ Some d → IsThere p xs d

-- each stands behind its first super
pub data AreBehind (p : CoreProgram) : List ClassId → Type 0 where
  none_yet : AreBehind p []
  one_more : (xs : List ClassId) (c : ClassId) → AreBehind p xs → IsReady p xs c → AreBehind p (xs ++ c ∷ [])

pub record IsOrder (p : CoreProgram) (order : Order) : Type 0 where
  pub behind : AreBehind p order.classes.items
  pub count : length order.placed.items ≡ length p.classes
  pub marked : (c : ClassId) → slice_get order.placed.items c.0 ≡ Some true → In order.classes.items c

-- The class and those above it by first supers, up to one whose first super is there.
pub record IsPath (p : CoreProgram) (order : Order) (class : ClassId) (path : List ClassId) : Type 0 where
  pub each : (i : ℕ) → i < length path → slice_get path i ≡ up p i class
  pub ends : (d : ClassId) → up p (length path) class ≡ Some d → IsThere p order.classes.items d

-- all classes of the program, each behind its first super
pub record IsWhole (p : CoreProgram) (classes : List ClassId) : Type 0 where
  pub behind : AreBehind p classes
  pub each : (c : ClassId) → IsThere p classes c
