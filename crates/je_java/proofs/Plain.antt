-- Arithmetic gives no reference.
use Rattle.std.specs.Prelude.{if◌then◌else◌, ℤ, pos, negsuc, zero, suc, Bool, true, false, Option, Some, None}
use Rattle.std.specs.Int.{Width, w32, w64}
use Rattle.je_core.specs.declared.expr.BinOp.{BinOp}
use Rattle.je_core.specs.declared.expr.BinOp.TheVariants.{Mul, Div, Rem, Add, Sub, Shl, Shr, Ushr, Lt, Gt, Le, Ge, Eq, Ne, BitAnd, BitXor, BitOr}
use Rattle.je_core.specs.declared.value.Value.{Value}
use Rattle.je_core.specs.declared.value.Value.TheVariants as value
use Rattle.je_arith.specs.declared.outcome.Outcome.{Outcome}
use Rattle.je_arith.specs.declared.outcome.Outcome.TheVariants.{Gives, ByZero, Unfit}
use Rattle.je_core.specs.declared.expr.UnOp.{UnOp}
use Rattle.je_core.specs.declared.expr.UnOp.TheVariants.{Minus, Not, Tilde}
use Rattle.je_core.specs.declared.types.Base.{Base}
use Rattle.je_core.specs.declared.types.Ty.{Ty}
use Rattle.je_core.specs.declared.types.Base.TheVariants as base
use Rattle.je_arith.specs.Conversion.{as_base, as_base_if, number_of}
use Rattle.je_java.specs.Equality.{same_reference, equality, on_references, operated}
use Rattle.je_java.specs.Compound.{is_shift, promoted, joined, compound, placed_in, given_if, placed_outcome, update_outcome}
use Rattle.je_java.specs.Steps.{converted_in}
use Rattle.std.specs.Prelude.{ℕ}
use Rattle.je_arith.specs.Operators.{unary, unless_zero, on_numbers, shifted, on_truths, binary}

abbrev pub IsPlain : Value → Type 0
IsPlain (value.Ref object) = ⊥
IsPlain _ = Unit {0}

abbrev pub PlainOutcome : Outcome → Type 0
PlainOutcome (Gives v) = IsPlain v
PlainOutcome _ = Unit {0}

unless-plain : (y : ℤ) (v : Value) → IsPlain v → PlainOutcome (unless_zero y v)
unless-plain (pos zero) v h = tt
unless-plain (pos (suc n)) v h = h
unless-plain (negsuc n) v h = h

module _ (w : Width) (of : ℤ → Value) (h : (z : ℤ) → IsPlain (of z)) where
  numbers-plain : (op : BinOp) (x y : ℤ) → PlainOutcome (on_numbers w of op x y)
  numbers-plain Mul x y = h _
  numbers-plain Div x y = unless-plain y _ (h _)
  numbers-plain Rem x y = unless-plain y _ (h _)
  numbers-plain Add x y = h _
  numbers-plain Sub x y = h _
  numbers-plain Shl x y = h _
  numbers-plain Shr x y = h _
  numbers-plain Ushr x y = h _
  numbers-plain Lt x y = tt
  numbers-plain Gt x y = tt
  numbers-plain Le x y = tt
  numbers-plain Ge x y = tt
  numbers-plain Eq x y = tt
  numbers-plain Ne x y = tt
  numbers-plain BitAnd x y = h _
  numbers-plain BitXor x y = h _
  numbers-plain BitOr x y = h _

  shifted-plain : (op : BinOp) (x s : ℤ) → PlainOutcome (shifted w of op x s)
  shifted-plain Shl x s = h _
  shifted-plain Shr x s = h _
  shifted-plain Ushr x s = h _
  shifted-plain _ x s = tt

truths-plain : (op : BinOp) (a b : Bool) → PlainOutcome (on_truths op a b)
truths-plain Eq a b = tt
truths-plain Ne a b = tt
truths-plain BitAnd a b = tt
truths-plain BitXor a b = tt
truths-plain BitOr a b = tt
truths-plain _ a b = tt

binary-plain : (op : BinOp) (a b : Value) → PlainOutcome (binary op a b)
binary-plain op (value.Int x) (value.Int y) = numbers-plain w32 value.Int (λ z. tt) op x y
binary-plain op (value.Int x) (value.Long y) = shifted-plain w32 value.Int (λ z. tt) op x y
binary-plain op (value.Long x) (value.Int y) = shifted-plain w64 value.Long (λ z. tt) op x y
binary-plain op (value.Long x) (value.Long y) = numbers-plain w64 value.Long (λ z. tt) op x y
binary-plain op (value.Bool a) (value.Bool b) = truths-plain op a b
binary-plain op _ _ = tt

equality-plain : (op : BinOp) (same : Bool) → PlainOutcome (equality op same)
equality-plain Eq same = tt
equality-plain Ne same = tt
equality-plain _ same = tt

references-plain : (op : BinOp) (same : Option Bool) (outcome : Outcome) → PlainOutcome outcome → PlainOutcome (on_references op same outcome)
references-plain op None outcome h = h
references-plain op (Some same) outcome h = equality-plain op same

pub operated-plain : (op : BinOp) (a b : Value) → PlainOutcome (operated op a b)
operated-plain op a b = references-plain op (same_reference a b) (binary op a b) (binary-plain op a b)

abbrev pub PlainOption : Option Value → Type 0
PlainOption None = Unit {0}
PlainOption (Some v) = IsPlain v

pub unary-plain : (op : UnOp) (a : Value) → PlainOption (unary op a)
unary-plain Minus (value.Int x) = tt
unary-plain Minus (value.Long x) = tt
unary-plain Tilde (value.Int x) = tt
unary-plain Tilde (value.Long x) = tt
unary-plain Not (value.Bool b) = tt
unary-plain _ _ = tt

number-plain : (b : Base) (z : ℤ) → PlainOption (as_base b z)
number-plain base.Byte z = tt
number-plain base.Short z = tt
number-plain base.Char z = tt
number-plain base.Int z = tt
number-plain base.Long z = tt
number-plain _ z = tt

maybe-plain : (b : Base) (z : Option ℤ) → PlainOption (as_base_if b z)
maybe-plain b None = tt
maybe-plain b (Some z) = number-plain b z

pub converted-plain : (dims : ℕ) (b : Base) (a : Value) → PlainOption (converted_in dims b a)
converted-plain zero b a = maybe-plain b (number_of a)
converted-plain (suc dims) b a = tt

-- compound assignment

if-plain : (b : Bool) (x y : Outcome) → PlainOutcome x → PlainOutcome y → PlainOutcome (if b then x else y)
if-plain true x y p q = p
if-plain false x y p q = q

joined-plain : (op : BinOp) (a b : Value) → PlainOutcome (joined op a b)
joined-plain op (value.Int x) (value.Long y) = if-plain (is_shift op) _ _ (binary-plain op (value.Int x) (value.Long y)) (binary-plain op (value.Long x) (value.Long y))
joined-plain op (value.Long x) (value.Int y) = if-plain (is_shift op) _ _ (binary-plain op (value.Long x) (value.Int y)) (binary-plain op (value.Long x) (value.Long y))
joined-plain op a b = binary-plain op a b

compound-plain : (op : BinOp) (a b : Value) → PlainOutcome (compound op a b)
compound-plain op a b = joined-plain op (promoted a) (promoted b)

placed-plain : (dims : ℕ) (b : Base) (a : Value) → PlainOption (placed_in dims b a)
placed-plain zero base.Bool (value.Bool holds) = tt
placed-plain zero base.Bool _ = tt
placed-plain zero base.Byte a = maybe-plain base.Byte (number_of a)
placed-plain zero base.Short a = maybe-plain base.Short (number_of a)
placed-plain zero base.Char a = maybe-plain base.Char (number_of a)
placed-plain zero base.Int a = maybe-plain base.Int (number_of a)
placed-plain zero base.Long a = maybe-plain base.Long (number_of a)
placed-plain zero base.Null a = maybe-plain base.Null (number_of a)
placed-plain zero base.Void a = maybe-plain base.Void (number_of a)
placed-plain zero (base.Class c) a = maybe-plain (base.Class c) (number_of a)
placed-plain (suc dims) b a = tt

given-plain : (o : Option Value) → PlainOption o → PlainOutcome (given_if o)
given-plain None h = tt
given-plain (Some v) h = h

outcome-plain : (ty : Ty) (outcome : Outcome) → PlainOutcome outcome → PlainOutcome (placed_outcome ty outcome)
outcome-plain ty (Gives v) h = given-plain _ (placed-plain ty.dims ty.base v)
outcome-plain ty ByZero h = tt
outcome-plain ty Unfit h = tt

pub update-plain : (ty : Ty) (op : BinOp) (a b : Value) → PlainOutcome (update_outcome ty op a b)
update-plain ty op a b = outcome-plain ty (compound op a b) (compound-plain op a b)
