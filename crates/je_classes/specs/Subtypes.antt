-- Subtypes among erased types (JLS 4.10.2, 4.10.3). No primitive type is a subtype.
use Rattle.std.specs.Prelude.{◌≡◌, ℕ, zero, suc, nat_eq, Bool, true, false, ◌||◌, ◌&&◌, List, [], ◌∷◌}
use Rattle.std.specs.List.{Contains}
use Rattle.je_core.specs.declared.types.Base.{Base}
use Rattle.je_core.specs.declared.types.Base.TheVariants as base
use Rattle.je_core.specs.declared.types.ClassId.{ClassId}
use Rattle.je_core.specs.declared.types.Ty.{Ty}
use Rattle.je_core.specs.Core.{CoreProgram}
use Rattle.je_classes.specs.Hierarchy.{supers_of, same_class, is_below, object_class}

abbrev pub class_type : ClassId → Ty
class_type class = record { base = base.Class class; dims = 0 }

-- the type of `null`
abbrev pub null_type : Ty
null_type = record { base = base.Null; dims = 0 }

abbrev pub array_of : Ty → Ty
array_of t = record { base = t.base; dims = suc t.dims }

-- a class, an array or the type of `null`
abbrev pub is_reference_base : Base → Bool
is_reference_base (base.Class class) = true
is_reference_base base.Null = true
is_reference_base _ = false

abbrev pub is_reference_of : Base → ℕ → Bool
is_reference_of b zero = is_reference_base b
is_reference_of b (suc n) = true

abbrev pub is_reference : Ty → Bool
is_reference t = is_reference_of t.base t.dims

-- One type is directly below another.
pub data Directly (program : CoreProgram) : Ty → Ty → Type 0 where
  to_super : {c d : ClassId} → Contains (supers_of program c) d → Directly program (class_type c) (class_type d)
  to_object : {t : Ty} → is_reference t ≡ true → Directly program t (class_type object_class)
  from_null : {t : Ty} → is_reference t ≡ true → Directly program null_type t
  of_arrays : {s t : Ty} → Directly program s t → Directly program (array_of s) (array_of t)

-- The reflexive and transitive closure, over references.
pub data Subtype (program : CoreProgram) : Ty → Ty → Type 0 where
  itself : {t : Ty} → is_reference t ≡ true → Subtype program t t
  through : {s t u : Ty} → Directly program s t → Subtype program t u → Subtype program s u

-- ---- the same, decided

-- Two bases are one where they are of one kind and, as classes, of one number.

abbrev pub kind_number : Base → ℕ
kind_number base.Bool = 0
kind_number base.Byte = 1
kind_number base.Short = 2
kind_number base.Char = 3
kind_number base.Int = 4
kind_number base.Long = 5
kind_number base.Null = 6
kind_number base.Void = 7
kind_number (base.Class c) = 8

abbrev pub number_in_kind : Base → ℕ
number_in_kind (base.Class c) = c.0
number_in_kind _ = 0

abbrev pub same_base : Base → Base → Bool
same_base a b = nat_eq (kind_number a) (kind_number b) && nat_eq (number_in_kind a) (number_in_kind b)

abbrev pub same_type : Ty → Ty → Bool
same_type s t = nat_eq s.dims t.dims && same_base s.base t.base

abbrev pub same_types : List Ty → List Ty → Bool
same_types [] [] = true
same_types (s ∷ ss) (t ∷ ts) = same_type s t && same_types ss ts
same_types _ _ = false

abbrev pub is_object : Base → Bool
is_object (base.Class c) = same_class c object_class
is_object _ = false

abbrev pub is_null : Base → Bool
is_null base.Null = true
is_null _ = false

-- of two bases without dimensions
abbrev pub is_base_below : CoreProgram → Base → Base → Bool
is_base_below program (base.Class c) (base.Class d) = same_class d object_class || is_below program c d
is_base_below program base.Null (base.Class d) = true
is_base_below program base.Null base.Null = true
is_base_below program _ _ = false

-- of two components of arrays, by their bases and dimensions: the same primitive, or a subtype
abbrev pub are_components_below : CoreProgram → Base → ℕ → Base → ℕ → Bool
are_components_below program a zero b zero = is_base_below program a b || same_base a b
are_components_below program a zero b (suc n) = is_null a
are_components_below program a (suc m) b zero = is_object b
are_components_below program a (suc m) b (suc n) = are_components_below program a m b n

abbrev pub are_below : CoreProgram → Base → ℕ → Base → ℕ → Bool
are_below program a zero b zero = is_base_below program a b
are_below program a zero b (suc n) = is_null a
are_below program a (suc m) b zero = is_object b
are_below program a (suc m) b (suc n) = are_components_below program a m b n

unfoldable pub is_subtype : CoreProgram → Ty → Ty → Bool
is_subtype program s t = are_below program s.base s.dims t.base t.dims
