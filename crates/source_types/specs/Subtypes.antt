-- Subtypes among types of a source (JLS 4.10.2, 4.10.3). Type arguments have to be the same, as there are no wildcards and no
-- raw types. No primitive type is a subtype.
use Rattle.std.specs.Prelude.{◌≡◌, ℕ, zero, suc, Bool, true, false, ◌&&◌, ◌||◌, List}
use Rattle.std.specs.List.{Contains}
use Rattle.je_classes.specs.Subtypes.{is_reference_of}
use Rattle.je_classes.specs.Subtypes as base_types
use Rattle.je_scopes.specs.SourceTypes.{SourceType, plain, of_class, of_variable, same_source_type, null_type}
use Rattle.source_types.specs.Heads.{ClassHead, object_type}
use Rattle.source_types.specs.Supertypes.{directly_above, has_type, supertypes}

abbrev pub dims_of : SourceType → ℕ
dims_of (plain b n) = n
dims_of (of_class c ts n) = n
dims_of (of_variable c at n) = n

-- what a type is an array of, or the type itself
abbrev pub element_of : SourceType → SourceType
element_of (plain b n) = plain b 0
element_of (of_class c ts n) = of_class c ts 0
element_of (of_variable c at n) = of_variable c at 0

abbrev pub array_of : SourceType → SourceType
array_of (plain b n) = plain b (suc n)
array_of (of_class c ts n) = of_class c ts (suc n)
array_of (of_variable c at n) = of_variable c at (suc n)

-- a class, a type variable, an array or the type of `null`
abbrev pub is_reference : SourceType → Bool
is_reference (plain b n) = is_reference_of b n
is_reference _ = true

-- One type is directly below another.
pub data Directly (heads : List ClassHead) : SourceType → SourceType → Type 0 where
  to_super : {s t : SourceType} → Contains (directly_above heads s) t → Directly heads s t
  to_object : {t : SourceType} → is_reference t ≡ true → Directly heads t object_type
  from_null : {t : SourceType} → is_reference t ≡ true → Directly heads (null_type 0) t
  of_arrays : {s t : SourceType} → Directly heads s t → Directly heads (array_of s) (array_of t)

-- The reflexive and transitive closure, over references.
pub data Subtype (heads : List ClassHead) : SourceType → SourceType → Type 0 where
  itself : {t : SourceType} → is_reference t ≡ true → Subtype heads t t
  through : {s t u : SourceType} → Directly heads s t → Subtype heads t u → Subtype heads s u

-- ---- the same, decided

abbrev pub is_object : SourceType → Bool
is_object t = same_source_type t object_type

abbrev pub is_null : SourceType → Bool
is_null (plain b n) = base_types.is_null b
is_null _ = false

-- of two types without dimensions
abbrev pub is_element_below : List ClassHead → SourceType → SourceType → Bool
is_element_below heads s t =
    is_reference s && (is_object t || is_null s && is_reference t || has_type (supertypes heads s) t)

-- of two components of arrays, by their elements and dimensions: the same primitive, or a subtype
abbrev pub are_components_below : List ClassHead → SourceType → ℕ → SourceType → ℕ → Bool
are_components_below heads s zero t zero = is_element_below heads s t || same_source_type s t
are_components_below heads s zero t (suc n) = is_null s
are_components_below heads s (suc m) t zero = is_object t
are_components_below heads s (suc m) t (suc n) = are_components_below heads s m t n

abbrev pub are_below : List ClassHead → SourceType → ℕ → SourceType → ℕ → Bool
are_below heads s zero t zero = is_element_below heads s t
are_below heads s zero t (suc n) = is_null s
are_below heads s (suc m) t zero = is_object t
are_below heads s (suc m) t (suc n) = are_components_below heads s m t n

unfoldable pub is_subtype : List ClassHead → SourceType → SourceType → Bool
is_subtype heads s t = are_below heads (element_of s) (dims_of s) (element_of t) (dims_of t)
