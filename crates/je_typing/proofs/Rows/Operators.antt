-- Worked rows of unary and binary operators.
use Rattle.std.proofs.Common.{◌≡◌, refl}
use Rattle.std.specs.Prelude.{pos, negsuc, true, false, [], codes}
use Rattle.std.specs.Int.{int_wrap}
use Rattle.je_core.specs.declared.expr.BinOp.TheVariants as op
use Rattle.je_core.specs.declared.expr.UnOp.TheVariants.{Minus, Not, Tilde}
use Rattle.je_core.specs.declared.types.Base.TheVariants as base
use Rattle.je_core.specs.declared.value.Value.TheVariants as value
use Rattle.je_core.specs.Core.{Const, Text, Unary, Binary, And, Concat, Convert, node}
use Rattle.je_ast.specs.declared.operator.BinaryOp.TheVariants as source
use Rattle.je_classes.specs.Hierarchy.{library_class, object_class}
use Rattle.je_fitting.specs.Types.{of}
use Rattle.source_types.specs.Supertypes.{supertypes}
use Rattle.je_typing.specs.declared.fault.TypeRule.TheVariants.{BadOperand}
use Rattle.je_typing.specs.Conversions.{converted}
use Rattle.je_typing.specs.Castable.{may_be}
use Rattle.je_typing.specs.Judged.{gives, bind, need, check, breaks}
use Rattle.je_typing.specs.Operators.{plus, unary, binary, primitive_operation, concatenation, reference_equality, logical}
use Rattle.je_typing.specs.Typed.{typed_as, typed_text}
use Rattle.je_typing.proofs.Rows.Parts.{left, token, right, whole, int, long, char, truth, null, text, local_node, variable, string_variable, of_type, heads, a, b, r, f, g}

-- +'a'
plus_char : plus token whole (char 97 right) ≡ gives (typed_as base.Int (Const (value.Int (pos 97)) []) whole token)
unfolding plus bind need converted int_wrap
plus_char = refl

-- +x, x an int: no node
plus_int : plus token whole (variable base.Int 0 right) ≡ gives (variable base.Int 0 right)
unfolding plus bind need converted
plus_int = refl

-- -x, x a byte
minus_byte : unary Minus token whole (variable base.Byte 0 right) ≡ gives (typed_as base.Int (Unary Minus (node (Convert (local_node 0 (of base.Byte) right)) (of base.Int) right right)) whole token)
unfolding unary bind need converted
minus_byte = refl

-- -true, !true
minus_truth : unary Minus token whole (truth true right) ≡ breaks BadOperand token
unfolding unary bind need converted
minus_truth = refl

not_truth : unary Not token whole (truth true right) ≡ gives (typed_as base.Bool (Const (value.Bool false) []) whole token)
unfolding unary bind need converted
not_truth = refl

-- ~5
tilde_int : unary Tilde token whole (int (pos 5) right) ≡ gives (typed_as base.Int (Const (value.Int (negsuc 5)) []) whole token)
unfolding unary bind need converted int_wrap
tilde_int = refl

-- 1 + 2
constant_sum : binary heads source.Add token whole (int (pos 1) left) (int (pos 2) right) ≡ gives (typed_as base.Int (Const (value.Int (pos 3)) []) whole token)
unfolding binary primitive_operation bind need converted library_class int_wrap
constant_sum = refl

-- 1 / 0, which is no constant expression
by_zero : binary heads source.Divide token whole (int (pos 1) left) (int (pos 0) right) ≡ gives (typed_as base.Int (Binary op.Div (int (pos 1) left).node (int (pos 0) right).node) whole token)
unfolding binary primitive_operation bind need converted library_class int_wrap
by_zero = refl

-- x + 1L, x an int: the left operand is converted
widened_sum : binary heads source.Add token whole (variable base.Int 0 left) (long (pos 1) right) ≡ gives (typed_as base.Long (Binary op.Add (node (Convert (local_node 0 (of base.Int) left)) (of base.Long) left left) (long (pos 1) right).node) whole token)
unfolding binary primitive_operation bind need converted library_class
widened_sum = refl

-- x << 33L, x an int: the type is that of the left operand
shifted : binary heads source.ShiftLeft token whole (variable base.Int 0 left) (long (pos 33) right) ≡ gives (typed_as base.Int (Binary op.Shl (local_node 0 (of base.Int) left) (long (pos 33) right).node) whole token)
unfolding binary primitive_operation bind need converted library_class
shifted = refl

-- 1 == true, true == true
number_and_truth : binary heads source.Equal token whole (int (pos 1) left) (truth true right) ≡ breaks BadOperand token
unfolding binary primitive_operation bind need converted library_class
number_and_truth = refl

truths : binary heads source.Equal token whole (truth true left) (truth true right) ≡ gives (typed_as base.Bool (Const (value.Bool true) []) whole token)
unfolding binary primitive_operation bind need converted library_class
truths = refl

-- "a" + 1 + 'b', of which each operand is constant
constant_text : binary heads source.Add token whole (text (codes "a1") left) (char 98 right) ≡ gives (typed_text (Text (codes "a1b") []) whole token)
unfolding binary concatenation bind check library_class
constant_text = refl

-- "a" + null, which is no constant expression
text_and_null : binary heads source.Add token whole (text (codes "a") left) (null right) ≡ gives (typed_text (Concat (text (codes "a") left).node (null right).node) whole token)
unfolding binary concatenation bind check library_class
text_and_null = refl

-- "a" - "b"
text_difference : binary heads source.Subtract token whole (text (codes "a") left) (text (codes "b") right) ≡ breaks BadOperand token
unfolding binary primitive_operation bind need converted library_class
text_difference = refl

-- "a" == "a" is a constant; s == "a", s a String, compares
same_texts : binary heads source.Equal token whole (text (codes "a") left) (text (codes "a") right) ≡ gives (typed_as base.Bool (Const (value.Bool true) []) whole token)
unfolding binary reference_equality may_be bind check library_class object_class supertypes
same_texts = refl

compared_texts : binary heads source.Equal token whole (string_variable 0 left) (text (codes "a") right) ≡ gives (typed_as base.Bool (Binary op.Eq (string_variable 0 left).node (text (codes "a") right).node) whole token)
unfolding binary reference_equality may_be bind check library_class object_class supertypes
compared_texts = refl

-- a == f, where no object_type is of both; a == b; r == a; r == f, where F is final
unrelated : binary heads source.Equal token whole (of_type a 0 left) (of_type f 1 right) ≡ breaks BadOperand token
unfolding binary reference_equality may_be bind check library_class object_class supertypes
unrelated = refl

related : binary heads source.NotEqual token whole (of_type a 0 left) (of_type b 1 right) ≡ gives (typed_as base.Bool (Binary op.Ne (of_type a 0 left).node (of_type b 1 right).node) whole token)
unfolding binary reference_equality may_be bind check library_class object_class supertypes
related = refl

interface_and_class : binary heads source.Equal token whole (of_type r 0 left) (of_type a 1 right) ≡ gives (typed_as base.Bool (Binary op.Eq (of_type r 0 left).node (of_type a 1 right).node) whole token)
unfolding binary reference_equality may_be bind check library_class object_class supertypes
interface_and_class = refl

interface_and_final_class : binary heads source.Equal token whole (of_type r 0 left) (of_type f 1 right) ≡ breaks BadOperand token
unfolding binary reference_equality may_be bind check library_class object_class supertypes
interface_and_final_class = refl

-- G<A> == G<B>, which no object_type is both of
other_arguments : binary heads source.Equal token whole (of_type (g a) 0 left) (of_type (g b) 1 right) ≡ breaks BadOperand token
unfolding binary reference_equality may_be bind check library_class object_class supertypes
other_arguments = refl

-- null == null; null == 1
nulls : binary heads source.Equal token whole (null left) (null right) ≡ gives (typed_as base.Bool (Binary op.Eq (null left).node (null right).node) whole token)
unfolding binary reference_equality may_be bind check library_class object_class supertypes
nulls = refl

null_and_number : binary heads source.Equal token whole (null left) (int (pos 1) right) ≡ breaks BadOperand token
unfolding binary reference_equality may_be bind check library_class object_class supertypes
null_and_number = refl

-- true && x; true && 1
and_truths : binary heads source.And token whole (truth true left) (variable base.Bool 0 right) ≡ gives (typed_as base.Bool (And (truth true left).node (variable base.Bool 0 right).node) whole token)
unfolding binary logical bind check library_class
and_truths = refl

and_number : binary heads source.And token whole (truth true left) (int (pos 1) right) ≡ breaks BadOperand token
unfolding binary logical bind check library_class
and_number = refl
