-- What Java's operators give on values of promoted types (JLS 5.6, 15.15, 15.17 to 15.22). References are compared
-- elsewhere.
use Rattle.std.specs.Prelude.{ℤ, pos, negsuc, zero, suc, Bool, true, false, not, ◌&&◌, ◌||◌, Option, Some, None}
use Rattle.std.specs.Int.{Width, w32, w64}
use Rattle.je_core.specs.declared.expr.BinOp.{BinOp}
use Rattle.je_core.specs.declared.expr.BinOp.TheVariants.{Mul, Div, Rem, Add, Sub, Shl, Shr, Ushr, Lt, Gt, Le, Ge, Eq, Ne, BitAnd, BitXor, BitOr}
use Rattle.je_core.specs.declared.expr.UnOp.{UnOp}
use Rattle.je_core.specs.declared.expr.UnOp.TheVariants.{Minus, Not, Tilde}
use Rattle.je_core.specs.declared.value.Value.{Value}
use Rattle.je_core.specs.declared.value.Value.TheVariants as value
use Rattle.je_arith.specs.declared.outcome.Outcome.{Outcome}
use Rattle.je_arith.specs.declared.outcome.Outcome.TheVariants.{Gives, ByZero, Unfit}
use Rattle.je_arith.specs.Arithmetic.{product, sum_of, difference, quotient, remainder, negation}
use Rattle.je_arith.specs.Bits.{conjunction, disjunction, exclusive, complement, exclusive_truth}
use Rattle.je_arith.specs.Comparison.{is_less, is_at_most, is_same, is_same_truth}
use Rattle.je_arith.specs.Shifts.{left_shift, right_shift, unsigned_right_shift}

abbrev pub unless_zero : ℤ → Value → Outcome
unless_zero (pos zero) v = ByZero
unless_zero (pos (suc n)) v = Gives v
unless_zero (negsuc n) v = Gives v

-- on two numbers of one type; a shift takes types of its own
abbrev pub on_numbers : Width → (ℤ → Value) → BinOp → ℤ → ℤ → Outcome
on_numbers w of Mul x y = Gives (of (product w x y))
on_numbers w of Div x y = unless_zero y (of (quotient w x y))
on_numbers w of Rem x y = unless_zero y (of (remainder x y))
on_numbers w of Add x y = Gives (of (sum_of w x y))
on_numbers w of Sub x y = Gives (of (difference w x y))
on_numbers w of Shl x y = Gives (of (left_shift w x y))
on_numbers w of Shr x y = Gives (of (right_shift w x y))
on_numbers w of Ushr x y = Gives (of (unsigned_right_shift w x y))
on_numbers w of Lt x y = Gives (value.Bool (is_less x y))
on_numbers w of Gt x y = Gives (value.Bool (is_less y x))
on_numbers w of Le x y = Gives (value.Bool (is_at_most x y))
on_numbers w of Ge x y = Gives (value.Bool (is_at_most y x))
on_numbers w of Eq x y = Gives (value.Bool (is_same x y))
on_numbers w of Ne x y = Gives (value.Bool (not (is_same x y)))
on_numbers w of BitAnd x y = Gives (of (conjunction w x y))
on_numbers w of BitXor x y = Gives (of (exclusive w x y))
on_numbers w of BitOr x y = Gives (of (disjunction w x y))

-- an int and a long: a shift alone, whose type is that of its left operand
abbrev pub shifted : Width → (ℤ → Value) → BinOp → ℤ → ℤ → Outcome
shifted w of Shl x s = Gives (of (left_shift w x s))
shifted w of Shr x s = Gives (of (right_shift w x s))
shifted w of Ushr x s = Gives (of (unsigned_right_shift w x s))
shifted w of _ x s = Unfit

abbrev pub on_truths : BinOp → Bool → Bool → Outcome
on_truths Eq a b = Gives (value.Bool (is_same_truth a b))
on_truths Ne a b = Gives (value.Bool (not (is_same_truth a b)))
on_truths BitAnd a b = Gives (value.Bool (a && b))
on_truths BitXor a b = Gives (value.Bool (exclusive_truth a b))
on_truths BitOr a b = Gives (value.Bool (a || b))
on_truths _ a b = Unfit

abbrev pub binary : BinOp → Value → Value → Outcome
binary op (value.Int x) (value.Int y) = on_numbers w32 value.Int op x y
binary op (value.Int x) (value.Long y) = shifted w32 value.Int op x y
binary op (value.Long x) (value.Int y) = shifted w64 value.Long op x y
binary op (value.Long x) (value.Long y) = on_numbers w64 value.Long op x y
binary op (value.Bool a) (value.Bool b) = on_truths op a b
binary op _ _ = Unfit

-- the value, where there is one
abbrev pub value_of : Outcome → Option Value
value_of (Gives v) = Some v
value_of _ = None

abbrev pub unary : UnOp → Value → Option Value
unary Minus (value.Int x) = Some (value.Int (negation w32 x))
unary Minus (value.Long x) = Some (value.Long (negation w64 x))
unary Tilde (value.Int x) = Some (value.Int (complement x))
unary Tilde (value.Long x) = Some (value.Long (complement x))
unary Not (value.Bool b) = Some (value.Bool (not b))
unary _ _ = None
