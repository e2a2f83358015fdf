-- What a compound assignment stores (JLS 15.26.2; 15.14.2 and 15.15.1 of `++` and `--`): the operator on the promoted
-- operands, converted to the type of the place.
use Rattle.std.specs.Prelude.{ℕ, zero, suc, pos, Bool, true, false, Option, Some, None, if◌then◌else◌}
use Rattle.je_core.specs.declared.expr.BinOp.{BinOp}
use Rattle.je_core.specs.declared.expr.BinOp.TheVariants.{Shl, Shr, Ushr}
use Rattle.je_core.specs.declared.types.Base.{Base}
use Rattle.je_core.specs.declared.types.Base.TheVariants as base
use Rattle.je_core.specs.declared.types.Ty.{Ty}
use Rattle.je_core.specs.declared.value.Value.{Value}
use Rattle.je_core.specs.declared.value.Value.TheVariants as value
use Rattle.je_arith.specs.Conversion.{converted}
use Rattle.je_arith.specs.Operators.{binary}
use Rattle.je_arith.specs.declared.outcome.Outcome.{Outcome}
use Rattle.je_arith.specs.declared.outcome.Outcome.TheVariants.{Gives, ByZero, Unfit}

abbrev pub is_shift : BinOp → Bool
is_shift Shl = true
is_shift Shr = true
is_shift Ushr = true
is_shift _ = false

-- JLS 5.6.1
abbrev pub promoted : Value → Value
promoted (value.Byte x) = value.Int x
promoted (value.Short x) = value.Int x
promoted (value.Char n) = value.Int (pos n)
promoted v = v

-- JLS 5.6.2; the operands of a shift keep their own types (JLS 15.19)
abbrev pub joined : BinOp → Value → Value → Outcome
joined op (value.Int x) (value.Long y) = if is_shift op then binary op (value.Int x) (value.Long y) else binary op (value.Long x) (value.Long y)
joined op (value.Long x) (value.Int y) = if is_shift op then binary op (value.Long x) (value.Int y) else binary op (value.Long x) (value.Long y)
joined op a b = binary op a b

abbrev pub compound : BinOp → Value → Value → Outcome
compound op a b = joined op (promoted a) (promoted b)

-- a value in the type of a place
abbrev pub placed_in : ℕ → Base → Value → Option Value
placed_in zero base.Bool (value.Bool holds) = Some (value.Bool holds)
placed_in zero to a = converted a to
placed_in (suc dims) to a = None

abbrev pub placed : Ty → Value → Option Value
placed ty a = placed_in ty.dims ty.base a

abbrev pub given_if : Option Value → Outcome
given_if None = Unfit
given_if (Some value) = Gives value

abbrev pub placed_outcome : Ty → Outcome → Outcome
placed_outcome ty (Gives value) = given_if (placed ty value)
placed_outcome ty ByZero = ByZero
placed_outcome ty Unfit = Unfit

-- what is stored in a place of a type
abbrev pub update_outcome : Ty → BinOp → Value → Value → Outcome
update_outcome ty op a b = placed_outcome ty (compound op a b)
