-- Worked rows of assignment conversion.
use Rattle.std.proofs.Common.{◌≡◌, refl}
use Rattle.std.specs.Prelude.{pos, negsuc}
use Rattle.je_core.specs.declared.types.Base.TheVariants as base
use Rattle.je_core.specs.Core.{Convert, node}
use Rattle.je_classes.specs.Hierarchy.{library_class, object_class}
use Rattle.je_fitting.specs.Types.{of}
use Rattle.source_types.specs.Erasure.{erased}
use Rattle.source_types.specs.Subtypes.{is_subtype}
use Rattle.source_types.specs.Supertypes.{supertypes}
use Rattle.je_typing.specs.declared.fault.TypeRule.TheVariants.{NotConvertible}
use Rattle.je_typing.specs.Conversions.{assigned, converted}
use Rattle.je_typing.specs.Judged.{gives, bind, check, breaks}
use Rattle.je_typing.specs.Typed.{primitive_type}
use Rattle.je_typing.proofs.Rows.Parts.{right, int, null, local_node, variable, of_type, heads, a, b, g}

-- long y = 5: one Convert
widened : assigned heads (primitive_type base.Long) right (int (pos 5) right) ≡ gives (node (Convert (int (pos 5) right).node) (of base.Long) right right)
unfolding assigned bind check converted is_subtype
widened = refl

-- int y = x, x a long
narrowed : assigned heads (primitive_type base.Int) right (variable base.Long 0 right) ≡ breaks NotConvertible right
unfolding assigned bind check converted is_subtype
narrowed = refl

-- byte y = 127; byte y = 128; byte y = x, x an int
constant_that_fits : assigned heads (primitive_type base.Byte) right (int (pos 127) right) ≡ gives (node (Convert (int (pos 127) right).node) (of base.Byte) right right)
unfolding assigned bind check converted is_subtype
constant_that_fits = refl

constant_past_the_byte : assigned heads (primitive_type base.Byte) right (int (pos 128) right) ≡ breaks NotConvertible right
unfolding assigned bind check converted is_subtype
constant_past_the_byte = refl

no_constant : assigned heads (primitive_type base.Byte) right (variable base.Int 0 right) ≡ breaks NotConvertible right
unfolding assigned bind check converted is_subtype
no_constant = refl

-- char y = -1; char y = 65535
below_the_chars : assigned heads (primitive_type base.Char) right (int (negsuc 0) right) ≡ breaks NotConvertible right
unfolding assigned bind check converted is_subtype
below_the_chars = refl

greatest_char : assigned heads (primitive_type base.Char) right (int (pos 65535) right) ≡ gives (node (Convert (int (pos 65535) right).node) (of base.Char) right right)
unfolding assigned bind check converted is_subtype
greatest_char = refl

-- char y = x, x a byte; int y = c, c a char
byte_to_char : assigned heads (primitive_type base.Char) right (variable base.Byte 0 right) ≡ breaks NotConvertible right
unfolding assigned bind check converted is_subtype
byte_to_char = refl

char_to_int : assigned heads (primitive_type base.Int) right (variable base.Char 0 right) ≡ gives (node (Convert (local_node 0 (of base.Char) right)) (of base.Int) right right)
unfolding assigned bind check converted is_subtype
char_to_int = refl

-- boolean y = 1; int y = null; A y = null
truth_from_number : assigned heads (primitive_type base.Bool) right (int (pos 1) right) ≡ breaks NotConvertible right
unfolding assigned bind check converted is_subtype
truth_from_number = refl

number_from_null : assigned heads (primitive_type base.Int) right (null right) ≡ breaks NotConvertible right
unfolding assigned bind check converted is_subtype
number_from_null = refl

object_from_null : assigned heads a right (null right) ≡ gives (null right).node
unfolding assigned bind check converted library_class object_class supertypes is_subtype erased
object_from_null = refl

-- A y = b, where B is below A; B y = a
upwards : assigned heads a right (of_type b 0 right) ≡ gives (of_type b 0 right).node
unfolding assigned bind check converted library_class object_class supertypes is_subtype erased
upwards = refl

downwards : assigned heads b right (of_type a 0 right) ≡ breaks NotConvertible right
unfolding assigned bind check converted library_class object_class supertypes is_subtype erased
downwards = refl

-- G<A> y = x, x a G<B>
other_argument : assigned heads (g a) right (of_type (g b) 0 right) ≡ breaks NotConvertible right
unfolding assigned bind check converted library_class object_class supertypes is_subtype erased
other_argument = refl
