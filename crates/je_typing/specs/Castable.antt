-- Casting conversion between references (JLS 5.5): whether an object, or null, of one type may be of another one.
use Rattle.std.specs.Prelude.{ℕ, zero, suc, Bool, true, false, not, ◌&&◌, ◌||◌, List, [], ◌∷◌, Option, Some, None, nat_eq}
use Rattle.std.specs.List.{list_any, list_all}
use Rattle.je_classes.specs.Subtypes.{same_base}
use Rattle.je_scopes.specs.Headers.{is_interface_sort}
use Rattle.je_scopes.specs.SourceTypes.{SourceType, SourceTypes, plain, of_class, of_variable, more_source_types, same_source_type}
use Rattle.source_types.specs.Heads.{ClassHead, head_at, bounds_in, bound_of, object_type, variable_count}
use Rattle.source_types.specs.Substitution.{array_over}
use Rattle.source_types.specs.Subtypes.{dims_of, element_of, is_null, is_object, is_reference}
use Rattle.source_types.specs.Supertypes.{supertypes}

-- ---- what is asked of classes

abbrev pub is_interface_in : Option ClassHead → Bool
is_interface_in None = false
is_interface_in (Some head) = is_interface_sort head.kind.sort

abbrev pub is_interface : List ClassHead → ℕ → Bool
is_interface heads c = is_interface_in (head_at heads c)

abbrev pub is_final_in : Option ClassHead → Bool
is_final_in None = false
is_final_in (Some head) = head.kind.is_final

abbrev pub is_final : List ClassHead → ℕ → Bool
is_final heads c = is_final_in (head_at heads c)

abbrev pub has_some : List SourceType → Bool
has_some [] = false
has_some (t ∷ ts) = true

abbrev pub is_generic : List ClassHead → ℕ → Bool
is_generic heads c = has_some (bounds_in (head_at heads c))

-- ---- type variables: in the place of one its bound, or the bound of that (JLS 4.4)

abbrev pub bounded_within : List ClassHead → ℕ → SourceType → SourceType
bounded_within heads zero (of_variable c i n) = array_over object_type n
bounded_within heads (suc steps) (of_variable c i n) = array_over (bounded_within heads steps (bound_of heads c i)) n
bounded_within heads steps t = t

-- No variable leads back to itself, so none is come by twice.
abbrev pub bounded : List ClassHead → SourceType → SourceType
bounded heads t = bounded_within heads (variable_count heads) t

-- ---- no object is of a generic class with two lists of arguments (JLS 4.5, 8.1.5)

abbrev pub is_variable : SourceType → Bool
is_variable (of_variable c i zero) = true
is_variable _ = false

-- neither is a type variable, and they are not one type
abbrev pub are_distinct_arguments : SourceType → SourceType → Bool
are_distinct_arguments s t = not (is_variable s || is_variable t || same_source_type s t)

abbrev pub some_are_distinct : SourceTypes → SourceTypes → Bool
some_are_distinct (more_source_types s ss) (more_source_types t ts) = are_distinct_arguments s t || some_are_distinct ss ts
some_are_distinct _ _ = false

abbrev pub are_distinct : SourceType → SourceType → Bool
are_distinct (of_class c ss m) (of_class d ts n) = nat_eq c d && some_are_distinct ss ts
are_distinct _ _ = false

abbrev pub are_consistent : List ClassHead → SourceType → SourceType → Bool
are_consistent heads s t = list_all (λ u. list_all (λ v. not (are_distinct u v)) (supertypes heads t)) (supertypes heads s)

-- ---- two classes

abbrev pub is_of_class : ℕ → SourceType → Bool
is_of_class d (of_class c ts n) = nat_eq c d
is_of_class d _ = false

-- one is below the other
abbrev pub are_related : List ClassHead → ℕ → SourceType → ℕ → SourceType → Bool
are_related heads c s d t = list_any (is_of_class d) (supertypes heads s) || list_any (is_of_class c) (supertypes heads t)

-- a class below both may be there: one is an interface, and the other isn't final
abbrev pub may_meet : List ClassHead → ℕ → ℕ → Bool
may_meet heads c d = (is_interface heads c && not (is_final heads d)) || (is_interface heads d && not (is_final heads c))

abbrev pub may_be_class : List ClassHead → ℕ → SourceType → ℕ → SourceType → Bool
may_be_class heads c s d t = (is_object s || is_object t || are_related heads c s d t || may_meet heads c d) && are_consistent heads s t

-- ---- two types that are no type variables, by what they are arrays of, and their dimensions (JLS 4.10.3)

-- of two without dimensions; primitive types stand here where arrays of them are compared
abbrev pub may_be_element : List ClassHead → SourceType → SourceType → Bool
may_be_element heads (of_class c ss m) (of_class d ts n) = may_be_class heads c (of_class c ss m) d (of_class d ts n)
may_be_element heads (plain a m) (plain b n) = same_base a b
may_be_element heads s t = is_null s || is_null t

-- what an array may be, and what may be an array
abbrev pub is_above_arrays : SourceType → Bool
is_above_arrays t = is_null t || is_object t

abbrev pub may_be_within : List ClassHead → SourceType → ℕ → SourceType → ℕ → Bool
may_be_within heads s zero t zero = may_be_element heads s t
may_be_within heads s zero t (suc n) = is_above_arrays s
may_be_within heads s (suc m) t zero = is_above_arrays t
may_be_within heads s (suc m) t (suc n) = may_be_within heads s m t n

abbrev pub may_be_bounded : List ClassHead → SourceType → SourceType → Bool
may_be_bounded heads s t = may_be_within heads (element_of s) (dims_of s) (element_of t) (dims_of t)

-- both are references
unfoldable pub may_be : List ClassHead → SourceType → SourceType → Bool
may_be heads s t = is_reference s && is_reference t && may_be_bounded heads (bounded heads s) (bounded heads t)
