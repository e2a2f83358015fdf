-- What is asked of methods that override others, and of the methods of a class together (JLS 8.1.1.1, 8.4.2, 8.4.5, 8.4.6,
-- 8.4.8, 8.8.2, 9.4.1).
use Rattle.std.specs.Prelude.{ℕ, Bool, true, false, not, ◌&&◌, ◌||◌, List, ◌++◌, map, filter, take, Option, Some, None, slice_get, nat_le, nat_eq, codes}
use Rattle.std.specs.List.{list_any, list_all}
use Rattle.je_base.specs.declared.span.Span.{Span}
use Rattle.je_core.specs.declared.program.Access.{Access}
use Rattle.je_core.specs.declared.program.Access.TheVariants as access
use Rattle.je_core.specs.declared.types.Ty.{Ty}
use Rattle.je_classes.specs.Hierarchy.{library_class}
use Rattle.je_classes.specs.Subtypes.{same_types}
use Rattle.je_scopes.specs.Headers.{same_name}
use Rattle.je_scopes.specs.SourceTypes.{SourceType, of_class, no_source_types, same_source_type}
use Rattle.source_types.specs.Erasure.{erased}
use Rattle.source_types.specs.Heads.{ClassHead}
use Rattle.source_types.specs.Subtypes.{is_subtype}
use Rattle.source_types.specs.Supertypes.{supertypes}
use Rattle.declarations.specs.Declarations.{DeclaredClass, DeclaredMethod}
use Rattle.je_typing.specs.declared.fault.TypeRule.TheVariants.{NotAbstract, BadOverride, SameErasure}
use Rattle.je_typing.specs.Judged.{Judged, check}
use Rattle.overriding.specs.Methods.{Method, own, own_from, own_method, methods_in, inherited, methods_above, overrides, is_same, is_subsignature, have_one_name, have_one_signature, are_same_types, erasure, unbounded}

-- ---- one method overrides another one

abbrev pub rank : Access → ℕ
rank access.Public = 0
rank access.Protected = 1
rank access.Package = 2
rank access.Private = 3
rank access.Hidden = 4

abbrev pub same_bool : Bool → Bool → Bool
same_bool true b = b
same_bool false b = not b

abbrev pub named_type : List ℕ → SourceType
named_type word = of_class (library_class word).0 no_source_types 0

-- a checked exception (JLS 11.2)
abbrev pub is_checked : List ClassHead → SourceType → Bool
is_checked heads t = not (is_subtype heads t (named_type (codes "java.lang.RuntimeException")) || is_subtype heads t (named_type (codes "java.lang.Error")))

abbrev pub may_throw : List ClassHead → List SourceType → SourceType → Bool
may_throw heads allowed t = not (is_checked heads t) || list_any (is_subtype heads t) allowed

-- the same, or a subtype
abbrev pub is_result_for : List ClassHead → SourceType → SourceType → Bool
is_result_for heads t u = same_source_type t u || is_subtype heads t u

-- The other one isn't final; both are static, or none; and it can be named from everywhere that the other one can.
abbrev pub may_stand_for : Method → Method → Bool
may_stand_for m n =
    not n.declared.flags.is_final && same_bool m.declared.flags.is_static n.declared.flags.is_static
    && nat_le (rank m.declared.flags.access) (rank n.declared.flags.access)

-- It may stand for it, its result is the other one's or below, and it throws no checked exception that the other one doesn't.
unfoldable pub may_override : List ClassHead → Method → Method → Bool
may_override heads m n = may_stand_for m n && is_result_for heads m.result n.result && list_all (may_throw heads n.throws) m.throws

abbrev pub overrides_well : List ClassHead → Method → Method → Bool
overrides_well heads m n = not (is_subsignature heads m n) || may_override heads m n

-- of all that the classes above its own one declare
abbrev pub is_good_override : List ClassHead → List DeclaredClass → Method → Bool
is_good_override heads classes m = list_all (overrides_well heads m) (methods_above heads classes m.holder)

-- a method that a class declares
unfoldable pub good_override : List ClassHead → List DeclaredClass → Method → Judged (Unit {0})
good_override heads classes m = check BadOverride m.declared.name.span (is_good_override heads classes m)

-- ---- a method that a class inherits with a body counts as an override of the abstract ones

abbrev pub implements : Method → Method → Bool
implements m n = not m.is_abstract && n.is_abstract && have_one_signature m n

-- the erasure of one is a subtype of the other's, by classes alone
abbrev pub is_erased_below : List ClassHead → SourceType → SourceType → Bool
is_erased_below heads t u = list_any (λ s. same_source_type (erasure heads s) u) (supertypes heads t)

-- what an erased type is an array of, or the type itself
abbrev pub element_of_erased : Ty → SourceType
element_of_erased t = unbounded t.base 0

-- whether both stand for one declared result, or one below the other, once erased
abbrev pub is_erased_result_for : List ClassHead → SourceType → SourceType → Bool
is_erased_result_for heads t u = is_result_for heads (erasure heads t) (erasure heads u)
    || nat_eq (erased heads t).dims (erased heads u).dims && is_erased_below heads (element_of_erased (erased heads t)) (element_of_erased (erased heads u))

abbrev pub implements_well : List ClassHead → Method → Method → Bool
implements_well heads m n =
    not (implements m n) || may_override heads m n && is_erased_result_for heads m.declared.result n.declared.result

-- each of some methods that implements another one of them may do so
abbrev pub implement_well : List ClassHead → List Method → Bool
implement_well heads ms = list_all (λ m. list_all (implements_well heads m) ms) ms

unfoldable pub good_implementations : List ClassHead → List DeclaredClass → ℕ → Span → Judged (Unit {0})
good_implementations heads classes c span = check BadOverride span (implement_well heads (inherited heads classes c))

-- ---- a class that isn't abstract has a body for each method

abbrev pub is_abstract_class : Option DeclaredClass → Bool
is_abstract_class None = false
is_abstract_class (Some d) = d.kind.is_abstract

abbrev pub is_left_abstract : List Method → Method → Bool
is_left_abstract ms n = n.is_abstract && not (list_any (λ m. implements m n) ms)

abbrev pub has_methods : List ClassHead → List DeclaredClass → ℕ → List Method
has_methods heads classes c = own classes c ++ inherited heads classes c

-- none of some methods is left without a body
abbrev pub are_implemented : List Method → Bool
are_implemented ms = not (list_any (is_left_abstract ms) ms)

unfoldable pub all_implemented : List ClassHead → List DeclaredClass → ℕ → Span → Judged (Unit {0})
all_implemented heads classes c span =
    check NotAbstract span (is_abstract_class (slice_get classes c) || are_implemented (has_methods heads classes c))

-- ---- two methods of one class

abbrev pub have_one_erasure : List ClassHead → DeclaredMethod → DeclaredMethod → Bool
have_one_erasure heads m n = same_name m.name.name n.name.name && same_types (map (erased heads) m.parameters) (map (erased heads) n.parameters)

-- both are abstract, with the same parameters
abbrev pub are_abstract_alike : Method → Method → Bool
are_abstract_alike m n = m.is_abstract && n.is_abstract && are_same_types m.parameters n.parameters

-- so, and one may stand for the other
abbrev pub are_alike : List ClassHead → Method → Method → Bool
are_alike heads m n = are_abstract_alike m n && (is_result_for heads m.result n.result || is_result_for heads n.result m.result)

abbrev pub is_override : List ClassHead → List DeclaredClass → Method → Method → Bool
is_override heads classes m n = overrides heads classes m n || implements m n

-- two methods of one name and erasure
abbrev pub may_clash : List ClassHead → Method → Method → Bool
may_clash heads m n = have_one_erasure heads m.declared n.declared && not (is_same m n)

-- so, and neither overrides the other
abbrev pub clash : List ClassHead → List DeclaredClass → Method → Method → Bool
clash heads classes m n =
    may_clash heads m n && not (is_override heads classes m n || is_override heads classes n m) && not (are_alike heads m n)

-- it clashes with one of these
abbrev pub clashes : List ClassHead → List DeclaredClass → List Method → Method → Bool
clashes heads classes ms m = list_any (clash heads classes m) ms

-- ---- a method against all that the classes above declare, overridden ones, too

-- whether a method, or one of these that it overrides, has the erasure of another one
abbrev pub shares_erasure : List ClassHead → List Method → Method → Method → Bool
shares_erasure heads overridden m n =
    have_one_erasure heads m.declared n.declared || list_any (λ (j : Method). have_one_erasure heads j.declared n.declared) overridden

-- so, and it doesn't override that one
abbrev pub takes_erasure : List ClassHead → List Method → Method → Method → Bool
takes_erasure heads overridden m n = have_one_name m n && not (is_subsignature heads m n) && shares_erasure heads overridden m n

-- those of some methods that a method overrides
abbrev pub overridden_of : List ClassHead → Method → List Method → List Method
overridden_of heads m above = filter (is_subsignature heads m) above

-- A method takes the erasure of one of those above its class.
abbrev pub clashes_above : List ClassHead → Method → List Method → Bool
clashes_above heads m above = list_any (takes_erasure heads (overridden_of heads m above) m) above

-- ---- a method that a class declares

-- those that its class declares before it
abbrev pub own_before : List DeclaredClass → Method → List Method
own_before classes m = own_from m.holder 0 (take m.place (methods_in (slice_get classes m.holder)))

abbrev pub is_like_one : List ClassHead → List Method → Method → Bool
is_like_one heads ms m = list_any (λ (n : Method). have_one_erasure heads m.declared n.declared) ms

-- Its erasure is that of none before it, and neither its own nor that of one that it overrides is that of a method above
-- that it doesn't override.
unfoldable pub no_clash : List ClassHead → List DeclaredClass → Method → Judged (Unit {0})
no_clash heads classes m =
    check SameErasure m.declared.name.span
    (not (is_like_one heads (own_before classes m) m || clashes_above heads m (methods_above heads classes m.holder)))

-- one of these is a constructor with a constructor's erasure
abbrev pub has_constructor : List ClassHead → List DeclaredMethod → DeclaredMethod → Bool
has_constructor heads earlier m = list_any (λ (n : DeclaredMethod). n.is_constructor && have_one_erasure heads m n) earlier

-- a constructor, of those before it (JLS 8.8.2)
unfoldable pub no_constructor_clash : List ClassHead → List DeclaredMethod → DeclaredMethod → Judged (Unit {0})
no_constructor_clash heads earlier m = check SameErasure m.name.span (not (has_constructor heads earlier m))

-- ---- the methods that a class inherits

-- two of these clash
abbrev pub some_clash : List ClassHead → List DeclaredClass → List Method → Bool
some_clash heads classes ms = list_any (clashes heads classes ms) ms

-- those that a method overrides by the class that declares it
abbrev pub overridden : List ClassHead → List DeclaredClass → Method → List Method
overridden heads classes m =
    overridden_of heads (own_method m.holder m.place m.declared) (methods_above heads classes m.holder)

-- It takes the erasure of another one, and neither overrides the other.
abbrev pub takes_unrelated : List ClassHead → List DeclaredClass → List Method → Method → Method → Bool
takes_unrelated heads classes overridden m n =
    takes_erasure heads overridden m n && not (overrides heads classes m n || overrides heads classes n m)

abbrev pub clash_above : List ClassHead → List DeclaredClass → Method → Method → Bool
clash_above heads classes m n = takes_unrelated heads classes (overridden heads classes m) m n

-- one of these clashes so with one of those above
abbrev pub some_clash_above : List ClassHead → List DeclaredClass → List Method → List Method → Bool
some_clash_above heads classes above ms = list_any (λ m. list_any (clash_above heads classes m) above) ms

unfoldable pub no_inherited_clash : List ClassHead → List DeclaredClass → ℕ → Span → Judged (Unit {0})
no_inherited_clash heads classes c span =
    check SameErasure span
    (not (some_clash heads classes (inherited heads classes c)
    || some_clash_above heads classes (methods_above heads classes c) (inherited heads classes c)))
