-- Worked rows of casts and of `instanceof`.
use Rattle.std.proofs.Common.{◌≡◌, refl}
use Rattle.std.specs.Prelude.{pos, negsuc, true, [], codes}
use Rattle.std.specs.Int.{int_wrap}
use Rattle.je_core.specs.declared.types.Base.TheVariants as base
use Rattle.je_core.specs.declared.value.Value.TheVariants as value
use Rattle.je_core.specs.Core.{Const, Text, Cast, Convert, InstanceOf, node}
use Rattle.je_classes.specs.Hierarchy.{library_class, object_class}
use Rattle.je_fitting.specs.Types.{of}
use Rattle.je_scopes.specs.SourceTypes.{plain, of_variable}
use Rattle.source_types.specs.Subtypes.{array_of as arrays_of}
use Rattle.source_types.specs.Erasure.{erased}
use Rattle.source_types.specs.Heads.{object_type}
use Rattle.source_types.specs.Supertypes.{supertypes}
use Rattle.je_typing.specs.declared.fault.TypeRule.TheVariants.{BadCast, BadInstanceOf}
use Rattle.je_typing.specs.Casts.{cast, primitive_cast, reference_cast, instance_of}
use Rattle.je_typing.specs.Conversions.{converted}
use Rattle.je_typing.specs.Castable.{may_be}
use Rattle.je_typing.specs.Judged.{gives, bind, check, breaks}
use Rattle.je_typing.specs.Typed.{typed_as, typed_text, primitive_type, string_type}
use Rattle.je_typing.proofs.Rows.Parts.{left, token, right, whole, int, truth, null, text, local_node, variable, of_type, heads, class_of, a, b, r, f, g, h}

-- (byte) 300; (char) -1
constant_byte : cast heads (primitive_type base.Byte) left whole (int (pos 300) right) ≡ gives (typed_as base.Byte (Const (value.Byte (pos 44)) []) whole left)
unfolding cast primitive_cast bind check converted int_wrap erased
constant_byte = refl

constant_char : cast heads (primitive_type base.Char) left whole (int (negsuc 0) right) ≡ gives (typed_as base.Char (Const (value.Char 65535) []) whole left)
unfolding cast primitive_cast bind check converted int_wrap erased
constant_char = refl

-- (int) x, x a long, and x an int, which is no node
narrowed : cast heads (primitive_type base.Int) left whole (variable base.Long 0 right) ≡ gives (typed_as base.Int (Convert (local_node 0 (of base.Long) right)) right right)
unfolding cast primitive_cast bind check converted erased
narrowed = refl

same_number : cast heads (primitive_type base.Int) left whole (variable base.Int 0 right) ≡ gives (variable base.Int 0 right)
unfolding cast primitive_cast bind check converted erased
same_number = refl

-- (int) true; (boolean) 1; (int) "x"; (boolean) t
number_of_truth : cast heads (primitive_type base.Int) left whole (truth true right) ≡ breaks BadCast left
unfolding cast primitive_cast bind check converted erased
number_of_truth = refl

truth_of_number : cast heads (primitive_type base.Bool) left whole (int (pos 1) right) ≡ breaks BadCast left
unfolding cast primitive_cast bind check converted erased
truth_of_number = refl

number_of_text : cast heads (primitive_type base.Int) left whole (text (codes "x") right) ≡ breaks BadCast left
unfolding cast primitive_cast bind check converted library_class erased
number_of_text = refl

truth_kept : cast heads (primitive_type base.Bool) left whole (variable base.Bool 0 right) ≡ gives (variable base.Bool 0 right)
unfolding cast primitive_cast bind check converted erased
truth_kept = refl

-- (String) "x" is a constant; (Object) "x" is a Cast
text_kept : cast heads string_type left whole (text (codes "x") right) ≡ gives (typed_text (Text (codes "x") []) whole left)
unfolding cast reference_cast may_be bind check library_class object_class supertypes erased
text_kept = refl

object_of_text : cast heads object_type left whole (text (codes "x") right) ≡ gives (record { node = node (Cast (text (codes "x") right).node) (erased heads object_type) whole left; type = object_type })
unfolding cast reference_cast may_be bind check library_class object_class supertypes erased
object_of_text = refl

-- (A) null; (B) a; (A) f; (R) a; (R) f
from_null : cast heads a left whole (null right) ≡ gives (record { node = node (Cast (null right).node) (erased heads a) whole left; type = a })
unfolding cast reference_cast may_be bind check library_class object_class supertypes erased
from_null = refl

downwards : cast heads b left whole (of_type a 0 right) ≡ gives (record { node = node (Cast (of_type a 0 right).node) (erased heads b) whole left; type = b })
unfolding cast reference_cast may_be bind check library_class object_class supertypes erased
downwards = refl

unrelated : cast heads a left whole (of_type f 0 right) ≡ breaks BadCast left
unfolding cast reference_cast may_be bind check library_class object_class supertypes erased
unrelated = refl

to_interface : cast heads r left whole (of_type a 0 right) ≡ gives (record { node = node (Cast (of_type a 0 right).node) (erased heads r) whole left; type = r })
unfolding cast reference_cast may_be bind check library_class object_class supertypes erased
to_interface = refl

final_to_interface : cast heads r left whole (of_type f 0 right) ≡ breaks BadCast left
unfolding cast reference_cast may_be bind check library_class object_class supertypes erased
final_to_interface = refl

-- (Object[]) x, x an int[], and an int[][]; (int[]) o; (long[]) x, x an int[]
array_of_numbers : cast heads (arrays_of object_type) left whole (of_type (plain base.Int 1) 0 right) ≡ breaks BadCast left
unfolding cast reference_cast may_be bind check library_class object_class supertypes erased
array_of_numbers = refl

array_of_arrays : cast heads (arrays_of object_type) left whole (of_type (plain base.Int 2) 0 right) ≡ gives (record { node = node (Cast (of_type (plain base.Int 2) 0 right).node) (erased heads (arrays_of object_type)) whole left; type = arrays_of object_type })
unfolding cast reference_cast may_be bind check library_class object_class supertypes erased
array_of_arrays = refl

object_to_array : cast heads (plain base.Int 1) left whole (of_type object_type 0 right) ≡ gives (record { node = node (Cast (of_type object_type 0 right).node) (erased heads (plain base.Int 1)) whole left; type = plain base.Int 1 })
unfolding cast reference_cast may_be bind check library_class object_class supertypes erased
object_to_array = refl

other_numbers : cast heads (plain base.Long 1) left whole (of_type (plain base.Int 1) 0 right) ≡ breaks BadCast left
unfolding cast reference_cast may_be bind check library_class object_class supertypes erased
other_numbers = refl

-- (T) o, T a type variable; (G) o, G generic; (H) x, x a G<B>, and a G<A>, where H is below G<B>
to_variable : cast heads (of_variable 54 0 0) left whole (of_type object_type 0 right) ≡ breaks BadCast left
unfolding cast reference_cast may_be bind check library_class object_class supertypes erased
to_variable = refl

to_generic_class : cast heads (class_of 54) left whole (of_type object_type 0 right) ≡ breaks BadCast left
unfolding cast reference_cast may_be bind check library_class object_class supertypes erased
to_generic_class = refl

to_class_below_generic : cast heads h left whole (of_type (g b) 0 right) ≡ gives (record { node = node (Cast (of_type (g b) 0 right).node) (erased heads h) whole left; type = h })
unfolding cast reference_cast may_be bind check library_class object_class supertypes erased
to_class_below_generic = refl

of_other_arguments : cast heads h left whole (of_type (g a) 0 right) ≡ breaks BadCast left
unfolding cast reference_cast may_be bind check library_class object_class supertypes erased
of_other_arguments = refl

-- null instanceof A; 5 instanceof Object; f instanceof A; o instanceof T
null_tested : instance_of heads a right token whole (null left) ≡ gives (typed_as base.Bool (InstanceOf (null left).node (erased heads a)) whole token)
unfolding instance_of may_be bind check library_class object_class supertypes erased
null_tested = refl

number_tested : instance_of heads object_type right token whole (int (pos 5) left) ≡ breaks BadInstanceOf right
unfolding instance_of may_be bind check library_class object_class supertypes erased
number_tested = refl

unrelated_tested : instance_of heads a right token whole (of_type f 0 left) ≡ breaks BadInstanceOf right
unfolding instance_of may_be bind check library_class object_class supertypes erased
unrelated_tested = refl

variable_tested : instance_of heads (of_variable 54 0 0) right token whole (of_type object_type 0 left) ≡ breaks BadInstanceOf right
unfolding instance_of may_be bind check library_class object_class supertypes erased
variable_tested = refl
