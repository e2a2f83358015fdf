-- Worked rows of two methods with one erasure.
use Rattle.std.proofs.Common.{◌≡◌, refl, List}
use Rattle.std.specs.Prelude.{true, [], ◌∷◌, ◌++◌, replicate}
use Rattle.je_classes.specs.Hierarchy.{object_class, library_class}
use Rattle.source_types.specs.Erasure.{erased}
use Rattle.source_types.specs.Heads.{object_type}
use Rattle.source_types.specs.Subtypes.{is_subtype}
use Rattle.source_types.specs.Supertypes.{supertypes}
use Rattle.declarations.specs.Declarations.{DeclaredClass, DeclaredMethod}
use Rattle.je_scopes.specs.SourceTypes.{SourceType}
use Rattle.je_typing.specs.declared.fault.TypeRule.TheVariants.{SameErasure}
use Rattle.je_typing.specs.Judged.{Judged, gives, breaks, check}
use Rattle.overriding.specs.Methods.{inherited, methods_above, own_method}
use Rattle.overriding.specs.Overrides.{no_clash, no_constructor_clash, no_inherited_clash}
use Rattle.overriding.proofs.Rows.Parts.{at, of, string, void, int, long, plainly, publicly, abstractly, with, heads, library, t, t_of_p}

-- ---- `class G<T> { void f(T t) {} void f(..) {} }`

abbrev in_g : SourceType → Judged (Unit {0})
in_g u = no_clash heads (library ++ with [] ∷ with [] ∷ with (plainly 2 (t ∷ []) void ∷ plainly 2 (u ∷ []) void ∷ []) ∷ []) (own_method 29 1 (plainly 2 (u ∷ []) void))

of_a_string : in_g string ≡ gives tt
unfolding no_clash methods_above check erased is_subtype supertypes heads object_class library_class
of_a_string = refl

of_the_bound : in_g object_type ≡ breaks SameErasure (at 2)
unfolding no_clash methods_above check erased is_subtype supertypes heads object_class library_class
of_the_bound = refl

-- ---- `class G<T> { void f(T t) {} } class H extends G<String> { void f(..) {} } class K<T> extends G<T> { void f(..) {} }`

abbrev classes : SourceType → List DeclaredClass
classes u = library ++ with [] ∷ with [] ∷ with (plainly 2 (t ∷ []) void ∷ []) ∷ with (plainly 2 (u ∷ []) void ∷ []) ∷ with (plainly 2 (u ∷ []) void ∷ []) ∷ []

overrides_with_the_argument : no_clash heads (classes string) (own_method 30 0 (plainly 2 (string ∷ []) void)) ≡ gives tt
unfolding no_clash methods_above check erased is_subtype supertypes heads object_class library_class
overrides_with_the_argument = refl

clashes_with_the_bound : no_clash heads (classes object_type) (own_method 30 0 (plainly 2 (object_type ∷ []) void)) ≡ breaks SameErasure (at 2)
unfolding no_clash methods_above check erased is_subtype supertypes heads object_class library_class
clashes_with_the_bound = refl

-- the erasure of a variable's signature overrides it
overrides_by_erasure : no_clash heads (classes object_type) (own_method 31 0 (plainly 2 (object_type ∷ []) void)) ≡ gives tt
unfolding no_clash methods_above check erased is_subtype supertypes heads object_class library_class
overrides_by_erasure = refl

-- ---- `interface I { .. f(); } interface J { .. f(); } interface L extends I, J { }`

abbrev two_interfaces : SourceType → SourceType → List DeclaredClass
two_interfaces r s = library ++ replicate 5 (with []) ++ with (abstractly 2 [] r ∷ []) ∷ with (abstractly 2 [] s ∷ []) ∷ []

of_one_result : no_inherited_clash heads (two_interfaces int int) 35 (at 9) ≡ gives tt
unfolding no_inherited_clash inherited methods_above check erased is_subtype supertypes heads object_class library_class
of_one_result = refl

of_a_result_below : no_inherited_clash heads (two_interfaces object_type string) 35 (at 9) ≡ gives tt
unfolding no_inherited_clash inherited methods_above check erased is_subtype supertypes heads object_class library_class
of_a_result_below = refl

of_other_results : no_inherited_clash heads (two_interfaces int long) 35 (at 9) ≡ breaks SameErasure (at 9)
unfolding no_inherited_clash inherited methods_above check erased is_subtype supertypes heads object_class library_class
of_other_results = refl

-- ---- `class G<T> { void f(T t) {} } class H extends G<String> { void f(String s) {} } class N extends H { void f(..) {} }`

abbrev in_n : SourceType → Judged (Unit {0})
in_n u =
    no_clash heads (library ++ with [] ∷ with [] ∷ with (plainly 2 (t ∷ []) void ∷ []) ∷ with (plainly 2 (string ∷ []) void ∷ []) ∷ [])
    (own_method 37 0 (plainly 2 (u ∷ []) void))

overrides_both : in_n string ≡ gives tt
unfolding no_clash methods_above check erased is_subtype supertypes heads object_class library_class
overrides_both = refl

clashes_with_an_overridden_one : in_n object_type ≡ breaks SameErasure (at 2)
unfolding no_clash methods_above check erased is_subtype supertypes heads object_class library_class
clashes_with_an_overridden_one = refl

-- ---- `interface P<T> { T f(T t); } class A { public Object f(..) } class Q extends A implements P<String> { public String f(String s) }`

abbrev of_p : DeclaredMethod
of_p = abstractly 2 (t_of_p ∷ []) t_of_p

abbrev in_q : SourceType → Judged (Unit {0})
in_q u =
    no_clash heads (library ++ with (publicly 2 (u ∷ []) object_type ∷ []) ∷ replicate 10 (with []) ++ with (of_p ∷ []) ∷ [])
    (own_method 39 0 (publicly 2 (string ∷ []) string))

implements_beside_another : in_q int ≡ gives tt
unfolding no_clash methods_above check erased is_subtype supertypes heads object_class library_class
implements_beside_another = refl

overrides_one_of_its_erasure : in_q object_type ≡ breaks SameErasure (at 2)
unfolding no_clash methods_above check erased is_subtype supertypes heads object_class library_class
overrides_one_of_its_erasure = refl

-- ---- `interface P<T> { T f(T t); } class R implements P<R> { public R f(R r) public Object f(..) }`

abbrev of_r : SourceType
of_r = of 40 []

abbrev in_r : SourceType → Judged (Unit {0})
in_r u =
    no_clash heads (library ++ replicate 11 (with []) ++ with (of_p ∷ []) ∷ with [] ∷ with (publicly 2 (of_r ∷ []) of_r ∷ publicly 2 (u ∷ []) object_type ∷ []) ∷ [])
    (own_method 40 1 (publicly 2 (u ∷ []) object_type))

beside_the_override : in_r string ≡ gives tt
unfolding no_clash methods_above check erased is_subtype supertypes heads object_class library_class
beside_the_override = refl

with_the_erasure_of_the_overridden_one : in_r object_type ≡ breaks SameErasure (at 2)
unfolding no_clash methods_above check erased is_subtype supertypes heads object_class library_class
with_the_erasure_of_the_overridden_one = refl

-- ---- `interface P<T> { T f(T t); }`, S and U below P<String> with `String f(String s);`, and V below both

abbrev both_override : List DeclaredClass
both_override = library ++ replicate 11 (with []) ++ with (of_p ∷ []) ∷ with [] ∷ with [] ∷
    with (abstractly 2 (string ∷ []) string ∷ []) ∷ with (abstractly 2 (string ∷ []) string ∷ []) ∷ []

of_two_that_override_one : no_inherited_clash heads both_override 43 (at 9) ≡ gives tt
unfolding no_inherited_clash inherited methods_above check erased is_subtype supertypes heads object_class library_class
of_two_that_override_one = refl

-- ---- `class A { public .. f(..) } abstract class Q extends A implements P<String> { }`

abbrev inherits_from_a : SourceType → List DeclaredClass
inherits_from_a u = library ++ with (publicly 2 (u ∷ []) u ∷ []) ∷ replicate 10 (with []) ++ with (of_p ∷ []) ∷ []

inherits_the_implementation : no_inherited_clash heads (inherits_from_a string) 39 (at 9) ≡ gives tt
unfolding no_inherited_clash inherited methods_above check erased is_subtype supertypes heads object_class library_class
inherits_the_implementation = refl

inherits_one_of_its_erasure : no_inherited_clash heads (inherits_from_a object_type) 39 (at 9) ≡ breaks SameErasure (at 9)
unfolding no_inherited_clash inherited methods_above check erased is_subtype supertypes heads object_class library_class
inherits_one_of_its_erasure = refl

-- ---- `class Q implements P<String> { public String f(String s) } interface I { Object f(..); } abstract class W extends Q implements I { }`

abbrev inherits_from_q : SourceType → List DeclaredClass
inherits_from_q u = library ++ replicate 5 (with []) ++ with (abstractly 2 (u ∷ []) object_type ∷ []) ∷ replicate 5 (with []) ++
    with (of_p ∷ []) ∷ with (publicly 2 (string ∷ []) string ∷ []) ∷ []

inherits_another_one : no_inherited_clash heads (inherits_from_q int) 44 (at 9) ≡ gives tt
unfolding no_inherited_clash inherited methods_above check erased is_subtype supertypes heads object_class library_class
inherits_another_one = refl

inherits_what_it_overrides : no_inherited_clash heads (inherits_from_q object_type) 44 (at 9) ≡ breaks SameErasure (at 9)
unfolding no_inherited_clash inherited methods_above check erased is_subtype supertypes heads object_class library_class
inherits_what_it_overrides = refl

-- ---- `class G<T> { G(T t) {} G(..) {} }`

abbrev constructor : SourceType → DeclaredMethod
constructor u = record (plainly 3 (u ∷ []) void) { is_constructor = true }

constructors_of_others : no_constructor_clash heads (constructor t ∷ []) (constructor string) ≡ gives tt
unfolding no_constructor_clash check erased heads object_class library_class
constructors_of_others = refl

constructors_of_one_erasure : no_constructor_clash heads (constructor t ∷ []) (constructor object_type) ≡ breaks SameErasure (at 3)
unfolding no_constructor_clash check erased heads object_class library_class
constructors_of_one_erasure = refl
