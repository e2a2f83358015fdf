-- Worked rows of methods that a class inherits.
use Rattle.std.proofs.Common.{◌≡◌, refl, List}
use Rattle.std.specs.Prelude.{true, false, [], ◌∷◌, ◌++◌, replicate}
use Rattle.je_core.specs.declared.program.Access.TheVariants as access
use Rattle.je_classes.specs.Hierarchy.{object_class, library_class}
use Rattle.source_types.specs.Erasure.{erased}
use Rattle.source_types.specs.Heads.{object_type}
use Rattle.je_scopes.specs.SourceTypes.{SourceType}
use Rattle.source_types.specs.Subtypes.{is_subtype}
use Rattle.source_types.specs.Supertypes.{supertypes}
use Rattle.declarations.specs.Declarations.{DeclaredClass, DeclaredMethod}
use Rattle.je_typing.specs.declared.fault.TypeRule.TheVariants.{BadOverride, NotAbstract}
use Rattle.je_typing.specs.Judged.{gives, breaks, check}
use Rattle.overriding.specs.Methods.{inherited}
use Rattle.overriding.specs.Overrides.{may_override, good_implementations, all_implemented}
use Rattle.overriding.proofs.Rows.Parts.{at, string, t, void, int, long, exception, flags, method, plainly, publicly, abstractly, throwing, with, heads, library}

-- `class A { m } interface I { n } class C extends A implements I { ms }`
abbrev classes : DeclaredMethod → DeclaredMethod → List DeclaredMethod → List DeclaredClass
classes m n ms = library ++ with (m ∷ []) ∷ replicate 4 (with []) ++ with (n ∷ []) ∷ with [] ∷ with ms ∷ []

abbrev f : DeclaredMethod
f = abstractly 2 [] void

implemented_above : all_implemented heads (classes (publicly 2 [] void) f []) 34 (at 9) ≡ gives tt
unfolding all_implemented inherited check erased is_subtype supertypes heads object_class library_class
implemented_above = refl

implemented_here : all_implemented heads (classes (publicly 3 [] void) f (publicly 2 [] void ∷ [])) 34 (at 9) ≡ gives tt
unfolding all_implemented inherited check erased is_subtype supertypes heads object_class library_class
implemented_here = refl

not_implemented : all_implemented heads (classes (publicly 3 [] void) f []) 34 (at 9) ≡ breaks NotAbstract (at 9)
unfolding all_implemented inherited check erased is_subtype supertypes heads object_class library_class
not_implemented = refl

abstract_here : all_implemented heads (classes (publicly 2 [] void) f (abstractly 2 [] void ∷ [])) 34 (at 9) ≡ breaks NotAbstract (at 9)
unfolding all_implemented inherited check erased is_subtype supertypes heads object_class library_class
abstract_here = refl

private_above : all_implemented heads (classes (method 2 [] void (flags false false false access.Private)) f []) 34 (at 9) ≡ breaks NotAbstract (at 9)
unfolding all_implemented inherited check erased is_subtype supertypes heads object_class library_class
private_above = refl

-- ---- a method of A implements the one of I

implements_it : good_implementations heads (classes (publicly 2 [] void) f []) 34 (at 9) ≡ gives tt
unfolding good_implementations may_override inherited check erased is_subtype supertypes heads object_class library_class
implements_it = refl

implements_with_lower_access : good_implementations heads (classes (plainly 2 [] void) f []) 34 (at 9) ≡ breaks BadOverride (at 9)
unfolding good_implementations may_override inherited check erased is_subtype supertypes heads object_class library_class
implements_with_lower_access = refl

implements_with_another_result : good_implementations heads (classes (publicly 2 [] long) (abstractly 2 [] int) []) 34 (at 9) ≡ breaks BadOverride (at 9)
unfolding good_implementations may_override inherited check erased is_subtype supertypes heads object_class library_class
implements_with_another_result = refl

-- a static method counts, and is no implementation
implements_static : good_implementations heads (classes (method 2 [] void (flags true false false access.Public)) f []) 34 (at 9) ≡ breaks BadOverride (at 9)
unfolding good_implementations may_override inherited check erased is_subtype supertypes heads object_class library_class
implements_static = refl

implements_throwing : good_implementations heads (classes (throwing exception (publicly 2 [] void)) f []) 34 (at 9) ≡ breaks BadOverride (at 9)
unfolding good_implementations may_override inherited check erased is_subtype supertypes heads object_class library_class
implements_throwing = refl

-- ---- `class G<T> { public T f() } interface I { String f(); } class M extends G<String> implements I { }`, and with Object in I

abbrev of_g : SourceType → List DeclaredClass
of_g r = library ++ with [] ∷ with [] ∷ with (publicly 2 [] t ∷ []) ∷ with [] ∷ with [] ∷ with (abstractly 2 [] r ∷ []) ∷ replicate 4 (with [])

erased_result_above : good_implementations heads (of_g string) 36 (at 9) ≡ breaks BadOverride (at 9)
unfolding good_implementations may_override inherited check erased is_subtype supertypes heads object_class library_class
erased_result_above = refl

erased_result_below : good_implementations heads (of_g object_type) 36 (at 9) ≡ gives tt
unfolding good_implementations may_override inherited check erased is_subtype supertypes heads object_class library_class
erased_result_below = refl
