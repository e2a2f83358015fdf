-- Worked rows of arrays.
use Rattle.std.proofs.Common.{◌≡◌, refl}
use Rattle.std.specs.Prelude.{pos, true, [], ◌∷◌}
use Rattle.je_core.specs.declared.types.Base.TheVariants as base
use Rattle.je_core.specs.Core.{Index, NewArray, ArrayOf, Convert, node, cores}
use Rattle.je_fitting.specs.Types.{of}
use Rattle.je_scopes.specs.SourceTypes.{plain, of_variable}
use Rattle.source_types.specs.Subtypes.{array_of as arrays_of}
use Rattle.source_types.specs.Erasure.{erased}
use Rattle.je_typing.specs.declared.fault.TypeRule.TheVariants.{NotConvertible, BadIndex, BadArray}
use Rattle.je_typing.specs.Arrays.{Part, element, int_index, new_array, lengths_from, array_type, array_of, elements_from}
use Rattle.je_typing.specs.Conversions.{assigned, converted}
use Rattle.je_typing.specs.Judged.{gives, bind, need, check, breaks}
use Rattle.je_typing.specs.Typed.{TypedNode, typed_as, primitive_type}
use Rattle.je_base.specs.declared.span.Span.{Span}
use Rattle.je_typing.proofs.Rows.Parts.{left, right, whole, int, long, truth, local_node, variable, of_type, heads, a, g}

abbrev part : TypedNode → Span → Part
part t span = record { value = t; span = span }

-- x[c], x an int[], c a char; x[y], y a long; y[x], y an int
char_index : element heads left right whole (of_type (plain base.Int 1) 0 left) (variable base.Char 1 right) ≡ gives (typed_as base.Int (Index (of_type (plain base.Int 1) 0 left).node (node (Convert (local_node 1 (of base.Char) right)) (of base.Int) right right)) whole whole)
unfolding element int_index bind need check converted erased
char_index = refl

long_index : element heads left right whole (of_type (plain base.Int 1) 0 left) (variable base.Long 1 right) ≡ breaks BadIndex right
unfolding element int_index bind need check converted erased
long_index = refl

no_array : element heads left right whole (variable base.Int 0 left) (variable base.Int 1 right) ≡ breaks BadIndex left
unfolding element int_index bind need check converted erased
no_array = refl

-- new int[2][]; new int[true]; new T[2]
with_length : new_array heads (primitive_type base.Int) 1 left whole (part (int (pos 2) right) right ∷ []) ≡ gives (record { node = node (NewArray (cores ((int (pos 2) right).node ∷ []))) (erased heads (plain base.Int 2)) whole whole; type = plain base.Int 2 })
unfolding new_array lengths_from int_index array_type bind need check converted erased
with_length = refl

with_truth : new_array heads (primitive_type base.Int) 0 left whole (part (truth true right) right ∷ []) ≡ breaks BadIndex right
unfolding new_array lengths_from int_index array_type bind need check converted erased
with_truth = refl

of_variables : new_array heads (of_variable 54 0 0) 0 left whole (part (int (pos 2) right) right ∷ []) ≡ breaks BadArray left
unfolding new_array lengths_from int_index array_type bind need check converted erased
of_variables = refl

-- new T[true] has both faults
length_first : new_array heads (of_variable 54 0 0) 0 left whole (part (truth true right) right ∷ []) ≡ breaks BadIndex right
unfolding new_array lengths_from int_index array_type bind need check converted erased
length_first = refl

-- an array of 255 dimensions, and of 256
most_dimensions : array_type heads (primitive_type base.Int) 255 left ≡ gives (plain base.Int 255)
unfolding array_type bind check erased
most_dimensions = refl

too_many_dimensions : array_type heads (primitive_type base.Int) 256 left ≡ breaks BadArray left
unfolding array_type bind check erased
too_many_dimensions = refl

-- { 1, 2L } for an int[], and for a long[]; { 1 } for an int; { } for a G<A>[]
of_ints : array_of heads (plain base.Int 1) whole (part (int (pos 1) left) left ∷ part (long (pos 2) right) right ∷ []) ≡ breaks NotConvertible right
unfolding array_of elements_from assigned bind need check converted erased
of_ints = refl

of_longs : array_of heads (plain base.Long 1) whole (part (int (pos 1) left) left ∷ part (long (pos 2) right) right ∷ []) ≡ gives (record { node = node (ArrayOf (cores (node (Convert (int (pos 1) left).node) (of base.Long) left left ∷ (long (pos 2) right).node ∷ []))) (erased heads (plain base.Long 1)) whole whole; type = plain base.Long 1 })
unfolding array_of elements_from assigned bind need check converted erased
of_longs = refl

for_no_array : array_of heads (primitive_type base.Int) whole (part (int (pos 1) left) left ∷ []) ≡ breaks BadArray whole
unfolding array_of elements_from assigned bind need check converted erased
for_no_array = refl

for_generic_class : array_of heads (arrays_of (g a)) whole [] ≡ breaks BadArray whole
unfolding array_of elements_from assigned bind need check converted erased
for_generic_class = refl
