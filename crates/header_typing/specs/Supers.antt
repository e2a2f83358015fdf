-- What a class may name as above it (JLS 8.1.2, 8.1.4, 8.1.5, 8.9, 9.1.3, 15.9.1).
use Rattle.std.specs.Prelude.{ℕ, zero, suc, Bool, false, not, ◌&&◌, ◌||◌, List, [], ◌∷◌, ◌++◌, length, Option, Some, None, nat_eq, codes}
use Rattle.std.specs.List.{list_any}
use Rattle.je_base.specs.declared.span.Span.{Span}
use Rattle.je_ast.specs.Types.{TypeName}
use Rattle.je_classes.specs.Hierarchy.{library_class}
use Rattle.je_scopes.specs.Faults.{name_span}
use Rattle.je_scopes.specs.Headers.{is_interface_sort}
use Rattle.je_scopes.specs.SourceTypes.{SourceType, of_class, of_variable, no_source_types, source_types, same_source_type}
use Rattle.source_types.specs.Heads.{ClassHead, head_at, bounds_in}
use Rattle.source_types.specs.Subtypes.{is_subtype}
use Rattle.source_types.specs.Supertypes.{supertypes}
use Rattle.je_typing.specs.declared.fault.TypeRule.TheVariants.{BadSuper}
use Rattle.je_typing.specs.Castable.{is_final_in, is_generic, is_interface_in}
use Rattle.je_typing.specs.Judged.{Judged, check}

-- ---- one type that is named

-- the class that a type is of, whatever its type arguments and dimensions
abbrev pub class_in : SourceType → Option ℕ
class_in (of_class c args n) = Some c
class_in _ = None

abbrev pub head_if : List ClassHead → Option ℕ → Option ClassHead
head_if heads None = None
head_if heads (Some c) = head_at heads c

abbrev pub head_of : List ClassHead → SourceType → Option ClassHead
head_of heads t = head_if heads (class_in t)

abbrev pub same_class : Option ℕ → Option ℕ → Bool
same_class (Some c) (Some d) = nat_eq c d
same_class _ _ = false

abbrev pub is_of_class : SourceType → SourceType → Bool
is_of_class t u = same_class (class_in t) (class_in u)

abbrev pub is_open_head : Option ClassHead → Bool
is_open_head None = false
is_open_head (Some h) = not (is_interface_sort h.kind.sort || h.kind.is_final)

-- a class that isn't final; no type variable (JLS 8.1.4)
abbrev pub may_be_extended : List ClassHead → SourceType → Bool
may_be_extended heads t = is_open_head (head_of heads t)

-- an interface; no type variable (JLS 8.1.5, 9.1.3)
abbrev pub is_interface : List ClassHead → SourceType → Bool
is_interface heads t = is_interface_in (head_of heads t)

-- ---- the types behind `extends`, `implements` and `new`

unfoldable pub superclass : List ClassHead → SourceType → TypeName → Judged (Unit {0})
superclass heads t written = check BadSuper (name_span written) (may_be_extended heads t)

-- an interface, of another class than those named before it
unfoldable pub superinterface : List ClassHead → List SourceType → SourceType → TypeName → Judged (Unit {0})
superinterface heads earlier t written =
    check BadSuper (name_span written) (is_interface heads t && not (list_any (is_of_class t) earlier))

-- the type of an anonymous class, which may be an interface; a type variable is another rule's fault
unfoldable pub anonymous_super : List ClassHead → SourceType → TypeName → Judged (Unit {0})
anonymous_super heads t written = check BadSuper (name_span written) (not (is_final_in (head_of heads t)))

-- ---- a class as a whole

-- the first variables of a class
abbrev pub variables_of : ℕ → ℕ → List SourceType
variables_of c zero = []
variables_of c (suc n) = variables_of c n ++ of_variable c n 0 ∷ []

-- the class with its own variables as arguments
abbrev pub own_type : List ClassHead → ℕ → SourceType
own_type heads c = of_class c (source_types (variables_of c (length (bounds_in (head_at heads c))))) 0

-- the same class with other arguments
abbrev pub is_other_of : SourceType → SourceType → Bool
is_other_of t u = is_of_class t u && not (same_source_type t u)

abbrev pub has_two_lists : List SourceType → Bool
has_two_lists types = list_any (λ t. list_any (is_other_of t) types) types

-- whether a class stands above another one with two lists of type arguments
abbrev pub is_above_twice : List ClassHead → ℕ → Bool
is_above_twice heads c = has_two_lists (supertypes heads (own_type heads c))

abbrev pub throwable_type : SourceType
throwable_type = of_class (library_class (codes "java.lang.Throwable")).0 no_source_types 0

abbrev pub is_generic_throwable : List ClassHead → ℕ → Bool
is_generic_throwable heads c = is_generic heads c && is_subtype heads (own_type heads c) throwable_type

-- no class stands above it with two lists of arguments (JLS 8.1.5), and no generic class is below Throwable (JLS 8.1.2)
unfoldable pub well_placed : List ClassHead → ℕ → Span → Judged (Unit {0})
well_placed heads c span = check BadSuper span (not (is_above_twice heads c || is_generic_throwable heads c))
