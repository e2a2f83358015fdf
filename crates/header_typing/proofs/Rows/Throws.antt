-- Worked rows of `throws`.
use Rattle.std.proofs.Common.{◌≡◌, refl}
use Rattle.std.specs.Prelude.{[]}
use Rattle.je_classes.specs.Hierarchy.{object_class, library_class}
use Rattle.source_types.specs.Subtypes.{is_subtype}
use Rattle.source_types.specs.Supertypes.{supertypes}
use Rattle.je_typing.specs.declared.fault.TypeRule.TheVariants.{BadThrow}
use Rattle.je_typing.specs.Judged.{gives, breaks, check}
use Rattle.header_typing.specs.Throws.{thrown}
use Rattle.header_typing.proofs.Rows.Parts.{at, name, of, variable, string, heads}

throws_a_class : thrown heads (of 16 []) (name 3) ≡ gives tt
unfolding thrown check is_subtype supertypes heads object_class library_class
throws_a_class = refl

throws_a_string : thrown heads string (name 3) ≡ breaks BadThrow (at 3)
unfolding thrown check is_subtype supertypes heads object_class library_class
throws_a_string = refl

-- a type variable by its bound
throws_a_variable : thrown heads (variable 18 0) (name 3) ≡ gives tt
unfolding thrown check is_subtype supertypes heads object_class library_class
throws_a_variable = refl

throws_another_variable : thrown heads (variable 11 0) (name 3) ≡ breaks BadThrow (at 3)
unfolding thrown check is_subtype supertypes heads object_class library_class
throws_another_variable = refl
