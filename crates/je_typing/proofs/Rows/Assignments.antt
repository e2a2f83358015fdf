-- Worked rows of assignments.
use Rattle.std.proofs.Common.{◌≡◌, refl}
use Rattle.std.specs.Prelude.{pos, true, false, codes}
use Rattle.je_core.specs.declared.expr.BinOp.TheVariants as op
use Rattle.je_core.specs.declared.types.Base.TheVariants as base
use Rattle.je_core.specs.Core.{Core, Assign, Update, Binary, Field, This, node, no_core, a_core}
use Rattle.je_ast.specs.declared.operator.BinaryOp.TheVariants as source
use Rattle.je_classes.specs.Hierarchy.{library_class, object_class}
use Rattle.je_fitting.specs.Types.{of}
use Rattle.source_types.specs.Erasure.{erased}
use Rattle.source_types.specs.Heads.{object_type}
use Rattle.je_typing.specs.declared.fault.TypeRule.TheVariants.{NotConvertible, BadOperand, BadTarget}
use Rattle.je_typing.specs.Arrays.{length_of}
use Rattle.je_typing.specs.Assignments.{assignment, compound, update, stepped, place}
use Rattle.je_typing.specs.Conversions.{assigned, converted}
use Rattle.je_typing.specs.Judged.{gives, bind, need, check, breaks}
use Rattle.je_base.specs.declared.span.Span.{Span}
use Rattle.je_typing.specs.Operators.{binary, primitive_operation}
use Rattle.je_typing.specs.Typed.{TypedNode, typed_as, typed_text, primitive_type, string_type}
use Rattle.je_typing.proofs.Rows.Parts.{at, left, token, right, whole, int, truth, text, local_node, variable, string_variable, of_type, heads, a}

-- x = 1
plain_assignment : assignment heads token left right whole (variable base.Int 0 left) (int (pos 1) right) ≡ gives (typed_as base.Int (Assign (local_node 0 (of base.Int) left) (int (pos 1) right).node) whole token)
unfolding assignment assigned place bind check converted erased
plain_assignment = refl

-- x = true; 1 = 1; 1 = true has both faults
value_of_another_type : assignment heads token left right whole (variable base.Int 0 left) (truth true right) ≡ breaks NotConvertible right
unfolding assignment assigned place bind check converted erased
value_of_another_type = refl

no_variable : assignment heads token left right whole (int (pos 1) left) (int (pos 1) right) ≡ breaks BadTarget left
unfolding assignment assigned place bind check converted erased
no_variable = refl

value_first : assignment heads token left right whole (int (pos 1) left) (truth true right) ≡ breaks NotConvertible right
unfolding assignment assigned place bind check converted erased
value_first = refl

-- a.length = 1
length_is_no_variable : assignment heads token left right whole (length_of left left (local_node 0 (of base.Int) left)) (int (pos 1) right) ≡ breaks BadTarget left
unfolding assignment assigned place bind check converted erased
length_is_no_variable = refl

-- y += 100, y a byte: the operand stays an int
small_sum : compound heads source.Add token left whole (variable base.Byte 0 left) (int (pos 100) right) ≡ gives (typed_as base.Byte (Update (local_node 0 (of base.Byte) left) op.Add (a_core (int (pos 100) right).node) false) whole token)
unfolding compound update place bind need check library_class erased
small_sum = refl

-- s += 1, s a String; i += "x", i an int; o += "x", o an Object; s -= "x"
appended : compound heads source.Add token left whole (string_variable 0 left) (int (pos 1) right) ≡ gives (typed_text (Update (string_variable 0 left).node op.Add (a_core (int (pos 1) right).node) false) whole token)
unfolding compound update place bind need check library_class erased
appended = refl

-- s += 1, s of a type variable for which String is put in
appended_above : compound heads source.Add token left whole (record (of_type object_type 0 left) { type = string_type }) (int (pos 1) right) ≡ gives (typed_text (Update (of_type object_type 0 left).node op.Add (a_core (int (pos 1) right).node) false) whole token)
unfolding compound update place bind need check library_class object_class erased
appended_above = refl

text_to_number : compound heads source.Add token left whole (variable base.Int 0 left) (text (codes "x") right) ≡ breaks BadOperand token
unfolding compound update place bind need check library_class erased
text_to_number = refl

text_to_object : compound heads source.Add token left whole (of_type object_type 0 left) (text (codes "x") right) ≡ breaks BadOperand token
unfolding compound update place bind need check library_class object_class erased
text_to_object = refl

text_subtracted : compound heads source.Subtract token left whole (string_variable 0 left) (text (codes "x") right) ≡ breaks BadOperand token
unfolding compound update place bind need check library_class erased
text_subtracted = refl

-- t &= true; t &= 1
truths : compound heads source.BitAnd token left whole (variable base.Bool 0 left) (truth true right) ≡ gives (typed_as base.Bool (Update (local_node 0 (of base.Bool) left) op.BitAnd (a_core (truth true right).node) false) whole token)
unfolding compound update place bind need check library_class erased
truths = refl

truth_and_number : compound heads source.BitAnd token left whole (variable base.Bool 0 left) (int (pos 1) right) ≡ breaks BadOperand token
unfolding compound update place bind need check library_class erased
truth_and_number = refl

-- 1 += true has both faults; 1 += 1
operand_first : compound heads source.Add token left whole (int (pos 1) left) (truth true right) ≡ breaks BadOperand token
unfolding compound update place bind need check library_class erased
operand_first = refl

sum_into_no_variable : compound heads source.Add token left whole (int (pos 1) left) (int (pos 1) right) ≡ breaks BadTarget left
unfolding compound update place bind need check library_class erased
sum_into_no_variable = refl

-- x++, x a char; t++, t a boolean; 1++
next_char : stepped op.Add true token left whole (variable base.Char 0 left) ≡ gives (typed_as base.Char (Update (local_node 0 (of base.Char) left) op.Add no_core true) whole token)
unfolding stepped place bind check erased
next_char = refl

next_truth : stepped op.Add true token left whole (variable base.Bool 0 left) ≡ breaks BadOperand token
unfolding stepped place bind check erased
next_truth = refl

next_of_no_variable : stepped op.Sub false token right whole (int (pos 1) right) ≡ breaks BadTarget right
unfolding stepped place bind check erased
next_of_no_variable = refl

-- n = n + 1 on a field: with its Do, 7 nodes are evaluated, since the place is none: Do, Assign, This, Binary, Field, This, Const
field_node : Span → Core
field_node span = node (Field (node This (erased heads a) span span) (record { 0 = 50 }) 0) (of base.Int) span span

field : Span → TypedNode
field span = record { node = field_node span; type = primitive_type base.Int }

counted : bind (binary heads source.Add (at 6 7) (at 4 9) (field (at 4 5)) (int (pos 1) (at 8 9))) (λ sum. assignment heads token left (at 4 9) (at 0 9) (field left) sum)
    ≡ gives (typed_as base.Int (Assign (field_node left) (node (Binary op.Add (field_node (at 4 5)) (int (pos 1) (at 8 9)).node) (of base.Int) (at 4 9) (at 6 7))) (at 0 9) token)
unfolding binary primitive_operation assignment assigned place bind need check converted library_class field field_node erased
counted = refl
