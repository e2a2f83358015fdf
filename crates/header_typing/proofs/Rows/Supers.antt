-- Worked rows of what a class names as above it.
use Rattle.std.proofs.Common.{◌≡◌, refl}
use Rattle.std.specs.Prelude.{[], ◌∷◌}
use Rattle.je_classes.specs.Hierarchy.{object_class, library_class}
use Rattle.source_types.specs.Subtypes.{is_subtype}
use Rattle.source_types.specs.Supertypes.{supertypes}
use Rattle.je_typing.specs.declared.fault.TypeRule.TheVariants.{BadSuper}
use Rattle.je_typing.specs.Judged.{gives, breaks, check}
use Rattle.header_typing.specs.Supers.{superclass, superinterface, anonymous_super, well_placed}
use Rattle.header_typing.proofs.Rows.Parts.{at, written, of, variable, heads}

-- class B extends A, Last, Light, Runnable, T
extends_a_class : superclass heads (of 10 []) (written 2 [] 2) ≡ gives tt
unfolding superclass check heads
extends_a_class = refl

extends_a_final_class : superclass heads (of 12 []) (written 2 [] 2) ≡ breaks BadSuper (at 2)
unfolding superclass check heads
extends_a_final_class = refl

extends_an_enum : superclass heads (of 13 []) (written 2 [] 2) ≡ breaks BadSuper (at 2)
unfolding superclass check heads
extends_an_enum = refl

extends_an_interface : superclass heads (of 8 []) (written 2 [] 2) ≡ breaks BadSuper (at 2)
unfolding superclass check heads
extends_an_interface = refl

extends_a_variable : superclass heads (variable 11 0) (written 2 [] 2) ≡ breaks BadSuper (at 2)
unfolding superclass check heads
extends_a_variable = refl

-- class B implements Comparable<B>, Runnable; implements A; implements Comparable<B>, Comparable<A>
implements_two : superinterface heads (of 7 (of 10 [] ∷ []) ∷ []) (of 8 []) (written 2 [] 2) ≡ gives tt
unfolding superinterface check heads
implements_two = refl

implements_a_class : superinterface heads [] (of 10 []) (written 2 [] 2) ≡ breaks BadSuper (at 2)
unfolding superinterface check heads
implements_a_class = refl

implements_one_twice : superinterface heads (of 7 (of 10 [] ∷ []) ∷ []) (of 7 (of 12 [] ∷ [])) (written 2 (written 4 [] 4 ∷ []) 2) ≡ breaks BadSuper (at 2)
unfolding superinterface check heads
implements_one_twice = refl

-- new Runnable() { .. }; new Last() { .. }
anonymous_interface : anonymous_super heads (of 8 []) (written 2 [] 2) ≡ gives tt
unfolding anonymous_super check heads
anonymous_interface = refl

anonymous_final : anonymous_super heads (of 12 []) (written 2 [] 2) ≡ breaks BadSuper (at 2)
unfolding anonymous_super check heads
anonymous_final = refl

-- Comparable stands above Order once, above Worse with Order and with Worse
above_once : well_placed heads 14 (at 0) ≡ gives tt
unfolding well_placed check is_subtype supertypes heads object_class library_class
above_once = refl

above_twice : well_placed heads 15 (at 0) ≡ breaks BadSuper (at 0)
unfolding well_placed check is_subtype supertypes heads object_class library_class
above_twice = refl

throwable_class : well_placed heads 16 (at 0) ≡ gives tt
unfolding well_placed check is_subtype supertypes heads object_class library_class
throwable_class = refl

generic_throwable : well_placed heads 17 (at 0) ≡ breaks BadSuper (at 0)
unfolding well_placed check is_subtype supertypes heads object_class library_class
generic_throwable = refl
