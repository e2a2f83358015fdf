-- Which types operators take, and which they give (JLS 15.15 to 15.22, 15.26.2). Operands are promoted already, but for
-- those of an update, whose conversions are its own.
use Rattle.std.specs.Prelude.{Bool, true, false, ◌&&◌, ◌||◌, not}
use Rattle.je_core.specs.declared.expr.BinOp.{BinOp}
use Rattle.je_core.specs.declared.expr.BinOp.TheVariants as op
use Rattle.je_core.specs.declared.expr.UnOp.{UnOp}
use Rattle.je_core.specs.declared.expr.UnOp.TheVariants as unary_op
use Rattle.je_core.specs.declared.types.Ty.{Ty}
use Rattle.je_classes.specs.Subtypes.{is_reference, same_type}
use Rattle.je_fitting.specs.Types.{bool, string, is_bool, is_number, is_promoted, is_void}

pub data Sort : Type 0 where
  arithmetic : Sort
  shift : Sort
  comparison : Sort
  equality : Sort
  bitwise : Sort

abbrev pub sort_of : BinOp → Sort
sort_of op.Mul = arithmetic
sort_of op.Div = arithmetic
sort_of op.Rem = arithmetic
sort_of op.Add = arithmetic
sort_of op.Sub = arithmetic
sort_of op.Shl = shift
sort_of op.Shr = shift
sort_of op.Ushr = shift
sort_of op.Lt = comparison
sort_of op.Gt = comparison
sort_of op.Le = comparison
sort_of op.Ge = comparison
sort_of op.Eq = equality
sort_of op.Ne = equality
sort_of op.BitAnd = bitwise
sort_of op.BitXor = bitwise
sort_of op.BitOr = bitwise

abbrev pub both_promoted : Ty → Ty → Bool
both_promoted s t = is_promoted s && same_type s t

abbrev pub both_bool : Ty → Ty → Bool
both_bool s t = is_bool s && is_bool t

-- the operands of a binary expression
abbrev pub takes : Sort → Ty → Ty → Bool
takes arithmetic s t = both_promoted s t
takes shift s t = is_promoted s && is_promoted t
takes comparison s t = both_promoted s t
takes equality s t = both_promoted s t || both_bool s t || (is_reference s && is_reference t)
takes bitwise s t = both_promoted s t || both_bool s t

-- the result, from the type of the left operand
abbrev pub gives : Sort → Ty → Ty
gives comparison s = bool
gives equality s = bool
gives _ s = s

abbrev pub takes_one : UnOp → Ty → Bool
takes_one unary_op.Minus t = is_promoted t
takes_one unary_op.Tilde t = is_promoted t
takes_one unary_op.Not t = is_bool t

abbrev pub is_addition : BinOp → Bool
is_addition op.Add = true
is_addition _ = false

-- the operator of `++` or `--`
abbrev pub is_step : BinOp → Bool
is_step op.Add = true
is_step op.Sub = true
is_step _ = false

abbrev pub changes : Sort → Ty → Ty → Bool
changes arithmetic s t = is_number s && is_number t
changes shift s t = is_number s && is_number t
changes bitwise s t = (is_number s && is_number t) || both_bool s t
changes _ s t = false

-- the place and the operand of a compound assignment: `+=` takes any value behind a String
abbrev pub updates : BinOp → Ty → Ty → Bool
updates o s t = changes (sort_of o) s t || (is_addition o && same_type s string && not (is_void t))

-- what Concat takes: one is a String, and the other any value
abbrev pub joins : Ty → Ty → Bool
joins s t = (same_type s string || same_type t string) && not (is_void s) && not (is_void t)
