-- Worked rows of methods that override others.
use Rattle.std.proofs.Common.{◌≡◌, refl}
use Rattle.std.specs.Prelude.{true, false, [], ◌∷◌, ◌++◌}
use Rattle.je_core.specs.declared.program.Access.TheVariants as access
use Rattle.je_core.specs.declared.types.Base.TheVariants as base
use Rattle.je_classes.specs.Hierarchy.{object_class, library_class}
use Rattle.je_scopes.specs.SourceTypes.{plain}
use Rattle.source_types.specs.Erasure.{erased}
use Rattle.source_types.specs.Heads.{object_type}
use Rattle.source_types.specs.Subtypes.{is_subtype}
use Rattle.source_types.specs.Supertypes.{supertypes}
use Rattle.declarations.specs.Declarations.{DeclaredMethod}
use Rattle.je_typing.specs.declared.fault.TypeRule.TheVariants.{BadOverride}
use Rattle.je_typing.specs.Judged.{Judged, gives, breaks, check}
use Rattle.overriding.specs.Methods.{own_method, methods_above}
use Rattle.overriding.specs.Overrides.{may_override, good_override}
use Rattle.overriding.proofs.Rows.Parts.{at, of, string, void, int, long, exception, flags, method, plainly, publicly, throwing, with, heads, library, t}

-- `class A { m } class B extends A { n }`, of n
abbrev in_b : DeclaredMethod → DeclaredMethod → Judged (Unit {0})
in_b m n = good_override heads (library ++ with (m ∷ []) ∷ with (n ∷ []) ∷ []) (own_method 28 0 n)

abbrev f : DeclaredMethod
f = plainly 2 [] void

the_same : in_b f f ≡ gives tt
unfolding good_override may_override methods_above check erased is_subtype supertypes heads object_class library_class
the_same = refl

another_result : in_b f (plainly 2 [] int) ≡ breaks BadOverride (at 2)
unfolding good_override may_override methods_above check erased is_subtype supertypes heads object_class library_class
another_result = refl

other_parameters : in_b f (plainly 2 (int ∷ []) int) ≡ gives tt
unfolding good_override may_override methods_above check erased is_subtype supertypes heads object_class library_class
other_parameters = refl

a_final_one : in_b (method 2 [] void (flags false true false access.Package)) f ≡ breaks BadOverride (at 2)
unfolding good_override may_override methods_above check erased is_subtype supertypes heads object_class library_class
a_final_one = refl

a_private_one : in_b (method 2 [] void (flags false true false access.Private)) f ≡ gives tt
unfolding good_override may_override methods_above check erased is_subtype supertypes heads object_class library_class
a_private_one = refl

static_by_instance : in_b (method 2 [] void (flags true false false access.Package)) f ≡ breaks BadOverride (at 2)
unfolding good_override may_override methods_above check erased is_subtype supertypes heads object_class library_class
static_by_instance = refl

-- a static method that hides one
static_by_static : in_b (method 2 [] int (flags true false false access.Package)) (method 2 [] long (flags true false false access.Package)) ≡ breaks BadOverride (at 2)
unfolding good_override may_override methods_above check erased is_subtype supertypes heads object_class library_class
static_by_static = refl

lower_access : in_b (publicly 2 [] void) f ≡ breaks BadOverride (at 2)
unfolding good_override may_override methods_above check erased is_subtype supertypes heads object_class library_class
lower_access = refl

higher_access : in_b f (publicly 2 [] void) ≡ gives tt
unfolding good_override may_override methods_above check erased is_subtype supertypes heads object_class library_class
higher_access = refl

a_subtype : in_b (plainly 2 [] object_type) (plainly 2 [] string) ≡ gives tt
unfolding good_override may_override methods_above check erased is_subtype supertypes heads object_class library_class
a_subtype = refl

a_supertype : in_b (plainly 2 [] string) (plainly 2 [] object_type) ≡ breaks BadOverride (at 2)
unfolding good_override may_override methods_above check erased is_subtype supertypes heads object_class library_class
a_supertype = refl

a_checked_exception : in_b f (throwing exception f) ≡ breaks BadOverride (at 2)
unfolding good_override may_override methods_above check erased is_subtype supertypes heads object_class library_class
a_checked_exception = refl

thrown_there_too : in_b (throwing (of 9 []) f) (throwing exception f) ≡ gives tt
unfolding good_override may_override methods_above check erased is_subtype supertypes heads object_class library_class
thrown_there_too = refl

an_unchecked_exception : in_b f (throwing (of 26 []) f) ≡ gives tt
unfolding good_override may_override methods_above check erased is_subtype supertypes heads object_class library_class
an_unchecked_exception = refl

-- ---- `class G<T> { T f() } class H extends G<String> { n }`

abbrev in_h : DeclaredMethod → Judged (Unit {0})
in_h n = good_override heads (library ++ with [] ∷ with [] ∷ with (plainly 2 [] t ∷ []) ∷ with (n ∷ []) ∷ []) (own_method 30 0 n)

the_argument : in_h (plainly 2 [] string) ≡ gives tt
unfolding good_override may_override methods_above check erased is_subtype supertypes heads object_class library_class
the_argument = refl

the_bound : in_h (plainly 2 [] object_type) ≡ breaks BadOverride (at 2)
unfolding good_override may_override methods_above check erased is_subtype supertypes heads object_class library_class
the_bound = refl

-- ---- `interface I { n }`, against the methods of Object

abbrev in_i : DeclaredMethod → Judged (Unit {0})
in_i n = good_override heads (library ++ with [] ∷ with [] ∷ with [] ∷ with [] ∷ with [] ∷ with (n ∷ []) ∷ []) (own_method 32 0 n)

equals_of_an_interface : in_i (publicly 0 (object_type ∷ []) (plain base.Bool 0)) ≡ gives tt
unfolding good_override may_override methods_above check erased is_subtype supertypes heads object_class library_class
equals_of_an_interface = refl

equals_with_another_result : in_i (publicly 0 (object_type ∷ []) int) ≡ breaks BadOverride (at 0)
unfolding good_override may_override methods_above check erased is_subtype supertypes heads object_class library_class
equals_with_another_result = refl
