-- Worked rows of the conditional operator.
use Rattle.std.proofs.Common.{◌≡◌, refl}
use Rattle.std.specs.Prelude.{pos, true, false, [], codes}
use Rattle.std.specs.Int.{int_wrap}
use Rattle.je_core.specs.declared.types.Base.TheVariants as base
use Rattle.je_core.specs.declared.value.Value.TheVariants as value
use Rattle.je_core.specs.Core.{Const, Text, Choose, Convert, node}
use Rattle.je_classes.specs.Hierarchy.{library_class, object_class}
use Rattle.je_fitting.specs.Types.{of}
use Rattle.source_types.specs.Erasure.{erased}
use Rattle.source_types.specs.Subtypes.{is_subtype}
use Rattle.source_types.specs.Supertypes.{supertypes}
use Rattle.je_typing.specs.declared.fault.TypeRule.TheVariants.{BadOperand, BadCondition}
use Rattle.je_typing.specs.Conditionals.{choice}
use Rattle.je_typing.specs.Conversions.{converted}
use Rattle.je_typing.specs.Judged.{gives, bind, need, check, breaks}
use Rattle.je_typing.specs.Typed.{typed_as, typed_text}
use Rattle.je_typing.proofs.Rows.Parts.{at, int, truth, null, text, local_node, variable, of_type, heads, a, b, f}

-- true ? 1 : 2
constants : choice heads (at 5 6) (at 0 4) (at 0 12) (truth true (at 0 4)) (int (pos 1) (at 7 8)) (int (pos 2) (at 11 12)) ≡ gives (typed_as base.Int (Const (value.Int (pos 1)) []) (at 0 12) (at 5 6))
unfolding choice bind need check converted int_wrap is_subtype erased
constants = refl

-- false ? "a" : "b"
texts : choice heads (at 5 6) (at 0 4) (at 0 12) (truth false (at 0 4)) (text (codes "a") (at 7 8)) (text (codes "b") (at 11 12)) ≡ gives (typed_text (Text (codes "b") []) (at 0 12) (at 5 6))
unfolding choice bind need check converted library_class is_subtype erased object_class supertypes
texts = refl

-- t ? c : 98, c a char: a char, since the constant fits; t ? c : 70000 is an int
fitting_constant : choice heads (at 2 3) (at 0 1) (at 0 9) (variable base.Bool 0 (at 0 1)) (variable base.Char 1 (at 4 5)) (int (pos 98) (at 7 9)) ≡ gives (typed_as base.Char (Choose (local_node 0 (of base.Bool) (at 0 1)) (local_node 1 (of base.Char) (at 4 5)) (node (Convert (int (pos 98) (at 7 9)).node) (of base.Char) (at 7 9) (at 7 9))) (at 0 9) (at 2 3))
unfolding choice bind need check converted is_subtype erased
fitting_constant = refl

large_constant : choice heads (at 2 3) (at 0 1) (at 0 9) (variable base.Bool 0 (at 0 1)) (variable base.Char 1 (at 4 5)) (int (pos 70000) (at 7 9)) ≡ gives (typed_as base.Int (Choose (local_node 0 (of base.Bool) (at 0 1)) (node (Convert (local_node 1 (of base.Char) (at 4 5))) (of base.Int) (at 4 5) (at 4 5)) (int (pos 70000) (at 7 9)).node) (at 0 9) (at 2 3))
unfolding choice bind need check converted is_subtype erased
large_constant = refl

-- t ? s : y, s a short and y a byte: a short
byte_and_short : choice heads (at 2 3) (at 0 1) (at 0 9) (variable base.Bool 0 (at 0 1)) (variable base.Short 1 (at 4 5)) (variable base.Byte 2 (at 8 9)) ≡ gives (typed_as base.Short (Choose (local_node 0 (of base.Bool) (at 0 1)) (local_node 1 (of base.Short) (at 4 5)) (node (Convert (local_node 2 (of base.Byte) (at 8 9))) (of base.Short) (at 8 9) (at 8 9))) (at 0 9) (at 2 3))
unfolding choice bind need check converted is_subtype erased
byte_and_short = refl

-- t ? 1 : null; t ? 1 : true
number_and_null : choice heads (at 2 3) (at 0 1) (at 0 9) (variable base.Bool 0 (at 0 1)) (int (pos 1) (at 4 5)) (null (at 6 9)) ≡ breaks BadOperand (at 2 3)
unfolding choice bind need check converted is_subtype erased
number_and_null = refl

number_and_truth : choice heads (at 2 3) (at 0 1) (at 0 9) (variable base.Bool 0 (at 0 1)) (int (pos 1) (at 4 5)) (truth true (at 6 9)) ≡ breaks BadOperand (at 2 3)
unfolding choice bind need check converted is_subtype erased
number_and_truth = refl

-- t ? a : b, where B is below A, is an A; t ? a : f, where neither is below the other
below : choice heads (at 2 3) (at 0 1) (at 0 9) (variable base.Bool 0 (at 0 1)) (of_type a 1 (at 4 5)) (of_type b 2 (at 8 9)) ≡ gives (record { node = node (Choose (local_node 0 (of base.Bool) (at 0 1)) (of_type a 1 (at 4 5)).node (of_type b 2 (at 8 9)).node) (erased heads a) (at 0 9) (at 2 3); type = a })
unfolding choice bind need check converted library_class object_class supertypes is_subtype erased
below = refl

unrelated : choice heads (at 2 3) (at 0 1) (at 0 9) (variable base.Bool 0 (at 0 1)) (of_type a 1 (at 4 5)) (of_type f 2 (at 8 9)) ≡ breaks BadOperand (at 2 3)
unfolding choice bind need check converted library_class object_class supertypes is_subtype erased
unrelated = refl

-- 1 ? 1 : null has both faults; 1 ? 1 : 2 has one
condition_last : choice heads (at 2 3) (at 0 1) (at 0 9) (int (pos 1) (at 0 1)) (int (pos 1) (at 4 5)) (null (at 6 9)) ≡ breaks BadOperand (at 2 3)
unfolding choice bind need check converted is_subtype erased
condition_last = refl

bad_condition : choice heads (at 2 3) (at 0 1) (at 0 9) (int (pos 1) (at 0 1)) (int (pos 1) (at 4 5)) (int (pos 2) (at 8 9)) ≡ breaks BadCondition (at 0 1)
unfolding choice bind need check converted is_subtype erased
bad_condition = refl
