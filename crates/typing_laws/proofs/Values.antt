-- The types of constants: what conversions and operators give on values.
use Rattle.std.proofs.Common.{◌≡◌, zero, suc, ℤ, pos, negsuc, Option, Some, None, refl, subst}
use Rattle.std.specs.Prelude.{Bool}
use Rattle.std.specs.Int.{Width, w32, w64}
use Rattle.std.proofs.lemmas.Option.{same_Some}
use Rattle.je_core.specs.declared.expr.BinOp.{BinOp}
use Rattle.je_core.specs.declared.expr.BinOp.TheVariants as op
use Rattle.je_core.specs.declared.expr.UnOp.{UnOp}
use Rattle.je_core.specs.declared.expr.UnOp.TheVariants as unary_op
use Rattle.je_core.specs.declared.types.Base.{Base}
use Rattle.je_core.specs.declared.types.Base.TheVariants as base
use Rattle.je_core.specs.declared.types.Ty.{Ty}
use Rattle.je_core.specs.declared.value.Value.{Value}
use Rattle.je_core.specs.declared.value.Value.TheVariants as value
use Rattle.je_arith.specs.Conversion.{as_base, as_base_if, number_of}
use Rattle.je_arith.specs.Operators.{binary, on_numbers, on_truths, shifted, unary, unless_zero, value_of}
use Rattle.je_fitting.specs.Operators.{gives, sort_of}
use Rattle.je_fitting.specs.Types.{bool, int, of, type_of_value}
use Rattle.je_typing.specs.Constants.{boolean_value, folded_binary, folded_unary, value_in, value_in_base}

-- a value, if there is one, has a type
abbrev pub HasType : Ty → Option Value → Type 0
HasType t None = Unit {0}
HasType t (Some v) = type_of_value v ≡ Some t

as-typed : (b : Base) (z : ℤ) → HasType (of b) (as_base b z)
as-typed base.Byte z = refl
as-typed base.Short z = refl
as-typed base.Char z = refl
as-typed base.Int z = refl
as-typed base.Long z = refl
as-typed base.Bool z = tt
as-typed base.Null z = tt
as-typed base.Void z = tt
as-typed (base.Class c) z = tt

if-typed : (b : Base) (o : Option ℤ) → HasType (of b) (as_base_if b o)
if-typed b None = tt
if-typed b (Some z) = as-typed b z

boolean-typed : (v : Value) → HasType bool (boolean_value v)
boolean-typed (value.Bool b) = refl
boolean-typed (value.Byte z) = tt
boolean-typed (value.Short z) = tt
boolean-typed (value.Char z) = tt
boolean-typed (value.Int z) = tt
boolean-typed (value.Long z) = tt
boolean-typed value.Null = tt
boolean-typed (value.Ref r) = tt

in-base : (b : Base) (v : Value) → HasType (of b) (value_in_base b v)
in-base base.Bool v = boolean-typed v
in-base base.Byte v = if-typed base.Byte (number_of v)
in-base base.Short v = if-typed base.Short (number_of v)
in-base base.Char v = if-typed base.Char (number_of v)
in-base base.Int v = if-typed base.Int (number_of v)
in-base base.Long v = if-typed base.Long (number_of v)
in-base base.Null v = if-typed base.Null (number_of v)
in-base base.Void v = if-typed base.Void (number_of v)
in-base (base.Class c) v = if-typed (base.Class c) (number_of v)

-- a value in a base is of that base
pub typed-in : (b : Base) (o : Option Value) → HasType (of b) (value_in b o)
typed-in b None = tt
typed-in b (Some v) = in-base b v

-- ---- operators

unless-typed : (z : ℤ) (v : Value) (t : Ty) → type_of_value v ≡ Some t → HasType t (value_of (unless_zero z v))
unless-typed (pos zero) v t h = tt
unless-typed (pos (suc n)) v t h = h
unless-typed (negsuc n) v t h = h

numbers-typed : (w : Width) (make : ℤ → Value) (t : Ty) → ((z : ℤ) → type_of_value (make z) ≡ Some t) → (o : BinOp) (x y : ℤ) → HasType (gives (sort_of o) t) (value_of (on_numbers w make o x y))
numbers-typed w make t h op.Mul x y = h _
numbers-typed w make t h op.Div x y = unless-typed y _ t (h _)
numbers-typed w make t h op.Rem x y = unless-typed y _ t (h _)
numbers-typed w make t h op.Add x y = h _
numbers-typed w make t h op.Sub x y = h _
numbers-typed w make t h op.Shl x y = h _
numbers-typed w make t h op.Shr x y = h _
numbers-typed w make t h op.Ushr x y = h _
numbers-typed w make t h op.Lt x y = refl
numbers-typed w make t h op.Gt x y = refl
numbers-typed w make t h op.Le x y = refl
numbers-typed w make t h op.Ge x y = refl
numbers-typed w make t h op.Eq x y = refl
numbers-typed w make t h op.Ne x y = refl
numbers-typed w make t h op.BitAnd x y = h _
numbers-typed w make t h op.BitXor x y = h _
numbers-typed w make t h op.BitOr x y = h _

shifted-typed : (w : Width) (make : ℤ → Value) (t : Ty) → ((z : ℤ) → type_of_value (make z) ≡ Some t) → (o : BinOp) (x y : ℤ) → HasType (gives (sort_of o) t) (value_of (shifted w make o x y))
shifted-typed w make t h op.Shl x y = h _
shifted-typed w make t h op.Shr x y = h _
shifted-typed w make t h op.Ushr x y = h _
shifted-typed w make t h _ x y = tt

truths-typed : (o : BinOp) (a b : Bool) → HasType (gives (sort_of o) bool) (value_of (on_truths o a b))
truths-typed op.Eq a b = refl
truths-typed op.Ne a b = refl
truths-typed op.BitAnd a b = refl
truths-typed op.BitXor a b = refl
truths-typed op.BitOr a b = refl
truths-typed _ a b = tt

-- the type of what an operator gives goes by that of its left operand
by-left : (o : BinOp) (v w : Value) → (t : Ty) → type_of_value v ≡ Some t → HasType (gives (sort_of o) t) (value_of (binary o v w))
by-left o (value.Int x) (value.Int y) t h = subst (λ u. HasType (gives (sort_of o) u) (value_of (on_numbers w32 value.Int o x y))) (same_Some int t h) (numbers-typed w32 value.Int int (λ z. refl) o x y)
by-left o (value.Int x) (value.Long y) t h = subst (λ u. HasType (gives (sort_of o) u) (value_of (shifted w32 value.Int o x y))) (same_Some int t h) (shifted-typed w32 value.Int int (λ z. refl) o x y)
by-left o (value.Long x) (value.Int y) t h = subst (λ u. HasType (gives (sort_of o) u) (value_of (shifted w64 value.Long o x y))) (same_Some (of base.Long) t h) (shifted-typed w64 value.Long (of base.Long) (λ z. refl) o x y)
by-left o (value.Long x) (value.Long y) t h = subst (λ u. HasType (gives (sort_of o) u) (value_of (on_numbers w64 value.Long o x y))) (same_Some (of base.Long) t h) (numbers-typed w64 value.Long (of base.Long) (λ z. refl) o x y)
by-left o (value.Bool a) (value.Bool b) t h = subst (λ u. HasType (gives (sort_of o) u) (value_of (on_truths o a b))) (same_Some bool t h) (truths-typed o a b)
by-left o _ _ t h = tt

pub binary-typed : (o : BinOp) (t : Ty) (v w : Option Value) → HasType t v → HasType (gives (sort_of o) t) (folded_binary o v w)
binary-typed o t (Some v) (Some w) h = by-left o v w t h
binary-typed o t (Some v) None h = tt
binary-typed o t None w h = tt

unary-by : (o : UnOp) (v : Value) (t : Ty) → type_of_value v ≡ Some t → HasType t (unary o v)
unary-by unary_op.Minus (value.Int x) t h = h
unary-by unary_op.Minus (value.Long x) t h = h
unary-by unary_op.Tilde (value.Int x) t h = h
unary-by unary_op.Tilde (value.Long x) t h = h
unary-by unary_op.Not (value.Bool b) t h = h
unary-by _ _ t h = tt

pub unary-typed : (o : UnOp) (t : Ty) (v : Option Value) → HasType t v → HasType t (folded_unary o v)
unary-typed o t (Some v) h = unary-by o v t h
unary-typed o t None h = tt
