-- What a compound assignment stores, and a lemma for each step that computes.
use Rattle.std.proofs.Common.{◌≡◌, zero, suc, List, refl, sym, ap, subst}
use Rattle.std.specs.Prelude.{ℤ, pos, negsuc, Bool, true, false, ◌&&◌}
use Rattle.std.specs.Int.{Width, w32, w64}
use Rattle.je_arith.specs.Arithmetic.{quotient, remainder}
use Rattle.je_arith.specs.Operators.{unless_zero, on_numbers}
use Rattle.je_arith.specs.declared.outcome.Outcome.{Outcome}
use Rattle.je_arith.specs.declared.outcome.Outcome.TheVariants.{Gives, ByZero}
use Rattle.je_core.specs.declared.expr.BinOp.{BinOp}
use Rattle.je_core.specs.declared.expr.BinOp.TheVariants.{Mul, Div, Rem, Add, Sub, Shl, Shr, Ushr, BitAnd, BitXor, BitOr}
use Rattle.je_core.specs.declared.expr.UnOp.{UnOp}
use Rattle.je_core.specs.declared.object.Obj.{Obj}
use Rattle.je_core.specs.declared.types.Base.TheVariants as base
use Rattle.je_core.specs.declared.types.Ty.{Ty}
use Rattle.je_core.specs.declared.value.Value.{Value}
use Rattle.je_core.specs.declared.value.Value.TheVariants as value
use Rattle.je_core.specs.Core.{CoreProgram}
use Rattle.je_classes.proofs.Same.{same_type-equal}
use Rattle.je_fitting.specs.Operators.{Sort, arithmetic, shift, comparison, equality, bitwise, sort_of, takes, gives, takes_one, changes, both_bool}
use Rattle.je_fitting.specs.Types.{of, is_bool, is_number}
use Rattle.je_fitting.proofs.Booleans.{two}
use Rattle.je_java.specs.Compound.{promoted, joined, placed_outcome, update_outcome}
use Rattle.je_java.specs.Raised.{arithmetic as by_zero_class}
use Rattle.je_java.specs.Steps.{computed, binary, updated, unary, convert}
use Rattle.je_sound.specs.Values.{ValueFits}
use Rattle.eval_sound.specs.Safety.{Setting, Fitting, Context, Safe}
use Rattle.eval_sound.proofs.Made.{safe-raise}
use Rattle.eval_sound.proofs.Moves.{safe-ret, safe-need}
use Rattle.eval_sound.proofs.Operators.{OutcomeFits, it_gives, it_throws, Numeric, a_byte, a_short, a_char, an_int, a_long, numeric, no-reference, not-numeric, both-are, either-way, operated-fits, unary-fits, converted-fits, long-fits}
use Rattle.eval_sound.proofs.Standing.{raises-arithmetic}
use Rattle.eval_sound.proofs.Types.{Known}
use Rattle.eval_sound.proofs.Values.{Formed, bool, byte, short, char, int, long, null, reference, formed, bool-of, int-fits, truth-fits}

abbrev changing : Sort → Bool
changing arithmetic = true
changing shift = true
changing bitwise = true
changing _ = false

-- an int or a long
data Promoted : Value → Type 0 where
  to_int : {x : ℤ} → Promoted (value.Int x)
  to_long : {x : ℤ} → Promoted (value.Long x)

data GivesNumber : Outcome → Type 0 where
  gives_int : {x : ℤ} → GivesNumber (Gives (value.Int x))
  gives_long : {x : ℤ} → GivesNumber (Gives (value.Long x))
  gives_none : GivesNumber ByZero

promoted-number : {s : Ty} {v : Value} → Numeric s → Formed s v → Promoted (promoted v)
promoted-number n byte = to_int
promoted-number n short = to_int
promoted-number n char = to_int
promoted-number n int = to_int
promoted-number n long = to_long
promoted-number n bool = absurd (not-numeric n refl)
promoted-number n (null r) = absurd (no-reference n r)
promoted-number n (reference r) = absurd (no-reference n r)

unless-zero : {v : Value} (y : ℤ) → GivesNumber (Gives v) → GivesNumber (unless_zero y v)
unless-zero (pos zero) g = gives_none
unless-zero (pos (suc n)) g = g
unless-zero (negsuc n) g = g

on-numbers : (w : Width) (number : ℤ → Value) → ((x : ℤ) → GivesNumber (Gives (number x))) → (op : BinOp) (x y : ℤ) → changing (sort_of op) ≡ true → GivesNumber (on_numbers w number op x y)
on-numbers w number f Mul x y e = f _
on-numbers w number f Div x y e = unless-zero y (f (quotient w x y))
on-numbers w number f Rem x y e = unless-zero y (f (remainder x y))
on-numbers w number f Add x y e = f _
on-numbers w number f Sub x y e = f _
on-numbers w number f Shl x y e = f _
on-numbers w number f Shr x y e = f _
on-numbers w number f Ushr x y e = f _
on-numbers w number f BitAnd x y e = f _
on-numbers w number f BitXor x y e = f _
on-numbers w number f BitOr x y e = f _
on-numbers w number f _ x y e = absurd cc

ints : (x : ℤ) → GivesNumber (Gives (value.Int x))
ints x = gives_int

longs : (x : ℤ) → GivesNumber (Gives (value.Long x))
longs x = gives_long

int-long : (op : BinOp) (x y : ℤ) → changing (sort_of op) ≡ true → GivesNumber (joined op (value.Int x) (value.Long y))
int-long Shl x y e = gives_int
int-long Shr x y e = gives_int
int-long Ushr x y e = gives_int
int-long Mul x y e = on-numbers w64 value.Long longs Mul x y refl
int-long Div x y e = on-numbers w64 value.Long longs Div x y refl
int-long Rem x y e = on-numbers w64 value.Long longs Rem x y refl
int-long Add x y e = on-numbers w64 value.Long longs Add x y refl
int-long Sub x y e = on-numbers w64 value.Long longs Sub x y refl
int-long BitAnd x y e = on-numbers w64 value.Long longs BitAnd x y refl
int-long BitXor x y e = on-numbers w64 value.Long longs BitXor x y refl
int-long BitOr x y e = on-numbers w64 value.Long longs BitOr x y refl
int-long _ x y e = absurd cc

long-int : (op : BinOp) (x y : ℤ) → changing (sort_of op) ≡ true → GivesNumber (joined op (value.Long x) (value.Int y))
long-int Shl x y e = gives_long
long-int Shr x y e = gives_long
long-int Ushr x y e = gives_long
long-int Mul x y e = on-numbers w64 value.Long longs Mul x y refl
long-int Div x y e = on-numbers w64 value.Long longs Div x y refl
long-int Rem x y e = on-numbers w64 value.Long longs Rem x y refl
long-int Add x y e = on-numbers w64 value.Long longs Add x y refl
long-int Sub x y e = on-numbers w64 value.Long longs Sub x y refl
long-int BitAnd x y e = on-numbers w64 value.Long longs BitAnd x y refl
long-int BitXor x y e = on-numbers w64 value.Long longs BitXor x y refl
long-int BitOr x y e = on-numbers w64 value.Long longs BitOr x y refl
long-int _ x y e = absurd cc

joined-number : {a b : Value} (op : BinOp) → changing (sort_of op) ≡ true → Promoted a → Promoted b → GivesNumber (joined op a b)
joined-number op e (to_int {x = x}) (to_int {x = y}) = on-numbers w32 value.Int ints op x y e
joined-number op e (to_int {x = x}) (to_long {x = y}) = int-long op x y e
joined-number op e (to_long {x = x}) (to_int {x = y}) = long-int op x y e
joined-number op e (to_long {x = x}) (to_long {x = y}) = on-numbers w64 value.Long longs op x y e

module _ {p : CoreProgram} {objects : List Obj} where
  placed-number : {u : Ty} {o : Outcome} → Numeric u → GivesNumber o → OutcomeFits p objects u (placed_outcome u o)
  placed-number a_byte gives_int = it_gives (record { own = of base.Byte; has = refl; agree = refl })
  placed-number a_byte gives_long = it_gives (record { own = of base.Byte; has = refl; agree = refl })
  placed-number a_short gives_int = it_gives (record { own = of base.Short; has = refl; agree = refl })
  placed-number a_short gives_long = it_gives (record { own = of base.Short; has = refl; agree = refl })
  placed-number a_char gives_int = it_gives (record { own = of base.Char; has = refl; agree = refl })
  placed-number a_char gives_long = it_gives (record { own = of base.Char; has = refl; agree = refl })
  placed-number an_int gives_int = it_gives (int-fits p objects _)
  placed-number an_int gives_long = it_gives (int-fits p objects _)
  placed-number a_long gives_int = it_gives (long-fits _)
  placed-number a_long gives_long = it_gives (long-fits _)
  placed-number n gives_none = it_throws

  truths-changed : (op : BinOp) (x y : Bool) → sort_of op ≡ bitwise → OutcomeFits p objects (of base.Bool) (update_outcome (of base.Bool) op (value.Bool x) (value.Bool y))
  truths-changed BitAnd x y e = it_gives (truth-fits p objects _)
  truths-changed BitXor x y e = it_gives (truth-fits p objects _)
  truths-changed BitOr x y e = it_gives (truth-fits p objects _)
  truths-changed _ x y e = absurd cc

  numbers-changed : {a b : Value} (op : BinOp) (u s : Ty) → changing (sort_of op) ≡ true → (is_number u && is_number s) ≡ true → ValueFits p objects u a → ValueFits p objects s b →
      OutcomeFits p objects u (update_outcome u op a b)
  numbers-changed op u s c e f g =
      let n = two {a = is_number u} {b = is_number s} e in
      placed-number (numeric u n.0) (joined-number op c (promoted-number (numeric u n.0) (formed f)) (promoted-number (numeric s n.1) (formed g)))

  bits-changed : {a b : Value} (op : BinOp) (u s : Ty) → sort_of op ≡ bitwise → both_bool u s ≡ true → ValueFits p objects u a → ValueFits p objects s b → OutcomeFits p objects u (update_outcome u op a b)
  bits-changed {a = a} {b = b} op u s k e f g =
      let n = two {a = is_bool u} {b = is_bool s} e in
      let is = same_type-equal u (of base.Bool) n.0 in
      let x = bool-of is f in
      let y = bool-of (same_type-equal s (of base.Bool) n.1) g in
      subst (λ (t : Ty). OutcomeFits p objects t (update_outcome t op a b)) (sym is)
      (both-are (λ a b. OutcomeFits p objects (of base.Bool) (update_outcome (of base.Bool) op a b)) x.1 y.1 (truths-changed op x.0 y.0 k))

  pub changed-fits : {a b : Value} (op : BinOp) (u s : Ty) → changes (sort_of op) u s ≡ true → ValueFits p objects u a → ValueFits p objects s b → OutcomeFits p objects u (update_outcome u op a b)
  changed-fits {a = a} {b = b} op u s e f g = by (sort_of op) refl e
    where
      by : (k : Sort) → sort_of op ≡ k → changes k u s ≡ true → OutcomeFits p objects u (update_outcome u op a b)
      by arithmetic q h = numbers-changed op u s (ap changing q) h f g
      by shift q h = numbers-changed op u s (ap changing q) h f g
      by bitwise q h = either-way (is_number u && is_number s) (both_bool u s) h (λ r. numbers-changed op u s (ap changing q) r f g) (λ r. bits-changed op u s q r f g)
      by comparison q h = absurd cc
      by equality q h = absurd cc

module _ {S : Setting} (fit : Known S.program) where
  safe-computed : {c : Context} {w : List Obj} {t : Ty} {o : Outcome} → OutcomeFits S.program w t o → Safe S c w (Fitting S.program t) (computed S.program o)
  safe-computed (it_gives f) = safe-ret _ f
  safe-computed it_throws = safe-raise fit by_zero_class (raises-arithmetic S.program fit.library)

  pub safe-binary : {c : Context} {w : List Obj} {a b : Value} (op : BinOp) (s t : Ty) → takes (sort_of op) s t ≡ true → ValueFits S.program w s a → ValueFits S.program w t b →
      Safe S c w (Fitting S.program (gives (sort_of op) s)) (binary S.program op a b)
  unfolding binary
  safe-binary op s t e f g = safe-computed (operated-fits op s t e f g)

  pub safe-updated : {c : Context} {w : List Obj} {a b : Value} (op : BinOp) (u s : Ty) → changes (sort_of op) u s ≡ true → ValueFits S.program w u a → ValueFits S.program w s b →
      Safe S c w (Fitting S.program u) (updated S.program u op a b)
  unfolding updated
  safe-updated op u s e f g = safe-computed (changed-fits op u s e f g)

module _ {S : Setting} where
  pub safe-unary : {c : Context} {w : List Obj} {v : Value} (op : UnOp) (t : Ty) → takes_one op t ≡ true → ValueFits S.program w t v → Safe S c w (Fitting S.program t) (unary op v)
  unfolding unary
  safe-unary op t e f = let o = unary-fits op t e f in safe-need o.value o.there o.fits

  pub safe-convert : {c : Context} {w : List Obj} {v : Value} (s t : Ty) → is_number s ≡ true → is_number t ≡ true → ValueFits S.program w s v → Safe S c w (Fitting S.program t) (convert t v)
  unfolding convert
  safe-convert s t e g f = let o = converted-fits s t e g f in safe-need o.value o.there o.fits
