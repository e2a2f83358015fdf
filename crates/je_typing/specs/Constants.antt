-- Constant expressions (JLS 15.28): one node each, a Const that isn't null or a Text, with the library fields that it names in the
-- order in which they stand.
use Rattle.std.specs.Prelude.{ℕ, List, [], ◌++◌, Option, Some, None}
use Rattle.je_base.specs.declared.span.Span.{Span}
use Rattle.je_core.specs.declared.expr.BinOp.{BinOp}
use Rattle.je_core.specs.declared.expr.UnOp.{UnOp}
use Rattle.je_core.specs.declared.expr.Use.{Use}
use Rattle.je_core.specs.declared.types.Base.{Base}
use Rattle.je_core.specs.declared.types.Base.TheVariants as base
use Rattle.je_core.specs.declared.value.Value.{Value}
use Rattle.je_core.specs.declared.value.Value.TheVariants as value
use Rattle.je_core.specs.Core.{Core, CoreForm, Const, Text, node, form_of}
use Rattle.je_arith.specs.Conversion.{converted}
use Rattle.je_arith.specs.Operators.{binary, unary, value_of}
use Rattle.je_fitting.specs.Types.{of}
use Rattle.text_numbers.specs.Writing.{decimal_text, truth_text, unit_text}

-- ---- which expressions are constant

abbrev pub unless_null : Value → Option Value
unless_null value.Null = None
unless_null v = Some v

abbrev pub constant_in : CoreForm → Option Value
constant_in (Const v uses) = unless_null v
constant_in _ = None

-- the value of a constant expression of a primitive type
abbrev pub constant_value : Core → Option Value
constant_value n = constant_in (form_of n)

abbrev pub text_in : CoreForm → Option (List ℕ)
text_in (Text units uses) = Some units
text_in _ = None

-- the units of a constant string
abbrev pub constant_text : Core → Option (List ℕ)
constant_text n = text_in (form_of n)

abbrev pub uses_in : CoreForm → List Use
uses_in (Const v uses) = uses
uses_in (Text units uses) = uses
uses_in _ = []

-- the library fields that a constant expression names
abbrev pub uses_of : Core → List Use
uses_of n = uses_in (form_of n)

-- ---- constants in a type (JLS 5.1.2, 5.1.3)

abbrev pub boolean_value : Value → Option Value
boolean_value (value.Bool b) = Some (value.Bool b)
boolean_value v = None

abbrev pub value_in_base : Base → Value → Option Value
value_in_base base.Bool v = boolean_value v
value_in_base b v = converted v b

abbrev pub value_in : Base → Option Value → Option Value
value_in b None = None
value_in b (Some v) = value_in_base b v

-- ---- operators on constants; a division by zero is no constant expression

abbrev pub folded_unary : UnOp → Option Value → Option Value
folded_unary op None = None
folded_unary op (Some v) = unary op v

abbrev pub folded_binary : BinOp → Option Value → Option Value → Option Value
folded_binary op (Some v) (Some w) = value_of (binary op v w)
folded_binary op _ _ = None

-- the constant, where there is one, else the node
abbrev pub constant_or : Option Value → List Use → Base → Span → Span → Core → Core
constant_or (Some v) uses b span at n = node (Const v uses) (of b) span at
constant_or None uses b span at n = n

-- ---- the texts of constants (JLS 15.18.1.1)

abbrev pub text_of_value : Value → Option (List ℕ)
text_of_value (value.Bool b) = Some (truth_text b)
text_of_value (value.Byte z) = Some (decimal_text z)
text_of_value (value.Short z) = Some (decimal_text z)
text_of_value (value.Char unit) = Some (unit_text unit)
text_of_value (value.Int z) = Some (decimal_text z)
text_of_value (value.Long z) = Some (decimal_text z)
text_of_value _ = None

-- what a constant adds to a string
abbrev pub spelled_in : CoreForm → Option (List ℕ)
spelled_in (Const v uses) = text_of_value v
spelled_in (Text units uses) = Some units
spelled_in _ = None

abbrev pub spelled : Core → Option (List ℕ)
spelled n = spelled_in (form_of n)

abbrev pub joined_texts : Option (List ℕ) → Option (List ℕ) → Option (List ℕ)
joined_texts (Some a) (Some b) = Some (a ++ b)
joined_texts _ _ = None
