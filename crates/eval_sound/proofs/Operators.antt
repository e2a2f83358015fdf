-- What operators come to on values of the types that they take.
use Rattle.std.proofs.Common.{◌≡◌, ℕ, zero, suc, List, Option, Some, refl, sym, subst, inl, inr, arith}
use Rattle.std.specs.Prelude.{ℤ, pos, negsuc, Bool, true, false, ◌&&◌, ◌||◌, ◌⊎◌, nat_eq}
use Rattle.std.specs.Int.{Width, w32, w64}
use Rattle.std.proofs.lemmas.Bool.Decides.{nat_tests}
use Rattle.je_arith.specs.Arithmetic.{quotient, remainder}
use Rattle.je_arith.specs.Conversion.{number_of, as_base, as_base_if}
use Rattle.je_arith.specs.Operators as operators
use Rattle.je_arith.specs.Operators.{unless_zero, on_numbers, shifted, on_truths}
use Rattle.je_arith.specs.declared.outcome.Outcome.{Outcome}
use Rattle.je_arith.specs.declared.outcome.Outcome.TheVariants.{Gives, ByZero}
use Rattle.je_core.specs.declared.expr.BinOp.{BinOp}
use Rattle.je_core.specs.declared.expr.BinOp.TheVariants.{Mul, Div, Rem, Add, Sub, Shl, Shr, Ushr, Lt, Gt, Le, Ge, Eq, Ne, BitAnd, BitXor, BitOr}
use Rattle.je_core.specs.declared.expr.UnOp.{UnOp}
use Rattle.je_core.specs.declared.expr.UnOp.TheVariants.{Minus, Not, Tilde}
use Rattle.je_core.specs.declared.object.Obj.{Obj}
use Rattle.je_core.specs.declared.types.Base.{Base}
use Rattle.je_core.specs.declared.types.Base.TheVariants as base
use Rattle.je_core.specs.declared.types.Ty.{Ty}
use Rattle.je_core.specs.declared.value.Value.{Value}
use Rattle.je_core.specs.declared.value.Value.TheVariants as value
use Rattle.je_core.specs.Core.{CoreProgram}
use Rattle.je_classes.specs.Subtypes.{is_reference, same_type}
use Rattle.je_classes.proofs.Lists.{bool_cases}
use Rattle.je_classes.proofs.Same.{same_type-equal}
use Rattle.je_fitting.specs.Operators.{Sort, arithmetic, shift, comparison, equality, bitwise, sort_of, takes, gives, takes_one, both_promoted, both_bool}
use Rattle.je_fitting.specs.Types.{of, is_bool, is_int, is_number_base, is_number, is_promoted}
use Rattle.je_fitting.proofs.Booleans.{two}
use Rattle.je_java.specs.Equality.{same_reference, on_references, operated}
use Rattle.je_java.specs.Equality as java
use Rattle.je_java.specs.Steps.{converted_in}
use Rattle.je_sound.specs.Values.{ValueFits}
use Rattle.eval_sound.proofs.Values.{differ, Formed, bool, byte, short, char, int, long, null, reference, formed, int-of, long-of, bool-of, int-fits, truth-fits}

-- ---- which types are taken

abbrev int_type : Ty
int_type = of base.Int

abbrev long_type : Ty
long_type = of base.Long

abbrev bool_type : Ty
bool_type = of base.Bool

pub data Taken : Sort → Ty → Ty → Type 0 where
  ints : {k : Sort} → Taken k int_type int_type
  longs : {k : Sort} → Taken k long_type long_type
  int_long : Taken shift int_type long_type
  long_int : Taken shift long_type int_type
  equal_truths : Taken equality bool_type bool_type
  truths : Taken bitwise bool_type bool_type
  references : {s t : Ty} → is_reference s ≡ true → is_reference t ≡ true → Taken equality s t

promoted-cases : (s : Ty) → is_promoted s ≡ true → (s ≡ int_type) ⊎ (s ≡ long_type)
promoted-cases s e = bool_cases (λ b. (b || same_type s long_type) ≡ true → (s ≡ int_type) ⊎ (s ≡ long_type)) (is_int s)
    (λ q h. inl (same_type-equal s int_type q)) (λ q h. inr (same_type-equal s long_type h)) e

taken-both : {k : Sort} (s t : Ty) → both_promoted s t ≡ true → Taken k s t
taken-both {k = k} s t e = let q = two {a = is_promoted s} {b = same_type s t} e in by (promoted-cases s q.0) (same_type-equal s t q.1)
  where
    by : (s ≡ int_type) ⊎ (s ≡ long_type) → s ≡ t → Taken k s t
    by (inl i) j = subst (λ (u : Ty). Taken k s u) j (subst (λ (u : Ty). Taken k u u) (sym i) ints)
    by (inr i) j = subst (λ (u : Ty). Taken k s u) j (subst (λ (u : Ty). Taken k u u) (sym i) longs)

taken-shift : (s t : Ty) → (is_promoted s && is_promoted t) ≡ true → Taken shift s t
taken-shift s t e = let q = two {a = is_promoted s} {b = is_promoted t} e in by (promoted-cases s q.0) (promoted-cases t q.1)
  where
    by : (s ≡ int_type) ⊎ (s ≡ long_type) → (t ≡ int_type) ⊎ (t ≡ long_type) → Taken shift s t
    by (inl i) (inl j) = subst (λ (u : Ty). Taken shift s u) (sym j) (subst (λ (u : Ty). Taken shift u int_type) (sym i) ints)
    by (inl i) (inr j) = subst (λ (u : Ty). Taken shift s u) (sym j) (subst (λ (u : Ty). Taken shift u long_type) (sym i) int_long)
    by (inr i) (inl j) = subst (λ (u : Ty). Taken shift s u) (sym j) (subst (λ (u : Ty). Taken shift u int_type) (sym i) long_int)
    by (inr i) (inr j) = subst (λ (u : Ty). Taken shift s u) (sym j) (subst (λ (u : Ty). Taken shift u long_type) (sym i) longs)

taken-truths : {k : Sort} (s t : Ty) → Taken k bool_type bool_type → both_bool s t ≡ true → Taken k s t
taken-truths {k = k} s t h e =
    let q = two {a = is_bool s} {b = is_bool t} e in
    subst (λ (u : Ty). Taken k s u) (sym (same_type-equal t bool_type q.1)) (subst (λ (u : Ty). Taken k u bool_type) (sym (same_type-equal s bool_type q.0)) h)

pub either-way : {A : Type 0} (a b : Bool) → (a || b) ≡ true → (a ≡ true → A) → (b ≡ true → A) → A
either-way true b e f g = f refl
either-way false b e f g = g e

pub taken : (k : Sort) (s t : Ty) → takes k s t ≡ true → Taken k s t
taken arithmetic s t e = taken-both s t e
taken shift s t e = taken-shift s t e
taken comparison s t e = taken-both s t e
taken equality s t e = either-way (both_promoted s t || both_bool s t) (is_reference s && is_reference t) e
    (λ q. either-way (both_promoted s t) (both_bool s t) q (λ h. taken-both s t h) (λ h. taken-truths s t equal_truths h))
    (λ q. let r = two {a = is_reference s} {b = is_reference t} q in references r.0 r.1)
taken bitwise s t e = either-way (both_promoted s t) (both_bool s t) e (λ h. taken-both s t h) (λ h. taken-truths s t truths h)

-- ---- what is given

pub record OptionFits (p : CoreProgram) (objects : List Obj) (t : Ty) (o : Option Value) : Type 0 where
  pub value : Value
  pub there : o ≡ Some value
  pub fits : ValueFits p objects t value

pub data Numeric : Ty → Type 0 where
  a_byte : Numeric (of base.Byte)
  a_short : Numeric (of base.Short)
  a_char : Numeric (of base.Char)
  an_int : Numeric (of base.Int)
  a_long : Numeric (of base.Long)

pub numeric : (t : Ty) → is_number t ≡ true → Numeric t
numeric t e = let q = two {a = nat_eq t.dims 0} {b = is_number_base t.base} e in let d : t.dims ≡ 0 = grind (arith, nat_tests) in by t.base t.dims d q.1
  where
    at : (b : Base) → is_number_base b ≡ true → Numeric (of b)
    at base.Byte h = a_byte
    at base.Short h = a_short
    at base.Char h = a_char
    at base.Int h = an_int
    at base.Long h = a_long
    at _ h = absurd cc

    by : (b : Base) (n : ℕ) → n ≡ 0 → is_number_base b ≡ true → Numeric (record { base = b; dims = n })
    by b zero q h = at b h
    by b (suc n) q h = absurd cc

pub no-reference : {t : Ty} → Numeric t → is_reference t ≡ true → ⊥
no-reference a_byte e = absurd cc
no-reference a_short e = absurd cc
no-reference a_char e = absurd cc
no-reference an_int e = absurd cc
no-reference a_long e = absurd cc

pub not-numeric : {t : Ty} → Numeric t → t ≡ bool_type → ⊥
not-numeric a_byte e = differ base.Byte base.Bool e refl
not-numeric a_short e = differ base.Short base.Bool e refl
not-numeric a_char e = differ base.Char base.Bool e refl
not-numeric an_int e = differ base.Int base.Bool e refl
not-numeric a_long e = differ base.Long base.Bool e refl

pub both-are : {A B : Type 0} (P : A → B → Type 0) {a a' : A} {b b' : B} → a ≡ a' → b ≡ b' → P a' b' → P a b
both-are P {a = a} {b' = b'} e f h = subst (λ y. P a y) (sym f) (subst (λ x. P x b') (sym e) h)

pub data OutcomeFits (p : CoreProgram) (objects : List Obj) (t : Ty) : Outcome → Type 0 where
  it_gives : {v : Value} → ValueFits p objects t v → OutcomeFits p objects t (Gives v)
  it_throws : OutcomeFits p objects t ByZero

pub numbered : {s : Ty} {v : Value} → Numeric s → Formed s v → (z : ℤ) × (number_of v ≡ Some z)
numbered n (byte {x = x}) = (x, refl)
numbered n (short {x = x}) = (x, refl)
numbered n (char {n = m}) = (pos m, refl)
numbered n (int {x = x}) = (x, refl)
numbered n (long {x = x}) = (x, refl)
numbered n bool = absurd (not-numeric n refl)
numbered n (null r) = absurd (no-reference n r)
numbered n (reference r) = absurd (no-reference n r)

module _ {p : CoreProgram} {objects : List Obj} where
  pub long-fits : (x : ℤ) → ValueFits p objects (of base.Long) (value.Long x)
  long-fits x = record { own = of base.Long; has = refl; agree = refl }

  unless-zero : {t : Ty} {v : Value} (y : ℤ) → ValueFits p objects t v → OutcomeFits p objects t (unless_zero y v)
  unless-zero (pos zero) f = it_throws
  unless-zero (pos (suc n)) f = it_gives f
  unless-zero (negsuc n) f = it_gives f

  truth : (b : Bool) → OutcomeFits p objects bool_type (Gives (value.Bool b))
  truth b = it_gives (truth-fits p objects b)

  numbers : {t : Ty} (w : Width) (number : ℤ → Value) → ((x : ℤ) → ValueFits p objects t (number x)) → (op : BinOp) (x y : ℤ) → OutcomeFits p objects (gives (sort_of op) t) (on_numbers w number op x y)
  numbers w number f Mul x y = it_gives (f _)
  numbers w number f Div x y = unless-zero y (f (quotient w x y))
  numbers w number f Rem x y = unless-zero y (f (remainder x y))
  numbers w number f Add x y = it_gives (f _)
  numbers w number f Sub x y = it_gives (f _)
  numbers w number f Shl x y = it_gives (f _)
  numbers w number f Shr x y = it_gives (f _)
  numbers w number f Ushr x y = it_gives (f _)
  numbers w number f Lt x y = truth _
  numbers w number f Gt x y = truth _
  numbers w number f Le x y = truth _
  numbers w number f Ge x y = truth _
  numbers w number f Eq x y = truth _
  numbers w number f Ne x y = truth _
  numbers w number f BitAnd x y = it_gives (f _)
  numbers w number f BitXor x y = it_gives (f _)
  numbers w number f BitOr x y = it_gives (f _)

  shifts : {t : Ty} (w : Width) (number : ℤ → Value) → ((x : ℤ) → ValueFits p objects t (number x)) → (op : BinOp) (x y : ℤ) → sort_of op ≡ shift → OutcomeFits p objects (gives (sort_of op) t) (shifted w number op x y)
  shifts w number f Shl x y e = it_gives (f _)
  shifts w number f Shr x y e = it_gives (f _)
  shifts w number f Ushr x y e = it_gives (f _)
  shifts w number f _ x y e = absurd cc

  equal-truths : (op : BinOp) (a b : Bool) → sort_of op ≡ equality → OutcomeFits p objects (gives (sort_of op) bool_type) (on_truths op a b)
  equal-truths Eq a b e = truth _
  equal-truths Ne a b e = truth _
  equal-truths _ a b e = absurd cc

  bit-truths : (op : BinOp) (a b : Bool) → sort_of op ≡ bitwise → OutcomeFits p objects (gives (sort_of op) bool_type) (on_truths op a b)
  bit-truths BitAnd a b e = truth _
  bit-truths BitXor a b e = truth _
  bit-truths BitOr a b e = truth _
  bit-truths _ a b e = absurd cc

  compared : (s : Ty) (op : BinOp) (same : Bool) → sort_of op ≡ equality → OutcomeFits p objects (gives (sort_of op) s) (java.equality op same)
  compared s Eq same e = truth _
  compared s Ne same e = truth _
  compared s _ same e = absurd cc

  references-compared : {s t : Ty} {a b : Value} (u : Ty) (op : BinOp) → sort_of op ≡ equality → Formed s a → Formed t b → is_reference s ≡ true → is_reference t ≡ true →
      OutcomeFits p objects (gives (sort_of op) u) (operated op a b)
  references-compared _ op e (null q) (null r) f g = compared _ op true e
  references-compared _ op e (null q) (reference r) f g = compared _ op false e
  references-compared _ op e (reference q) (null r) f g = compared _ op false e
  references-compared _ op e (reference {o = o} q) (reference {o = o'} r) f g = compared _ op (nat_eq o.0 o'.0) e
  references-compared _ op e (null q) _ f g = absurd cc
  references-compared _ op e (reference q) _ f g = absurd cc
  references-compared _ op e _ b f g = absurd cc

  by-taken : {k : Sort} {s t : Ty} {a b : Value} (op : BinOp) → sort_of op ≡ k → Taken k s t → ValueFits p objects s a → ValueFits p objects t b → OutcomeFits p objects (gives (sort_of op) s) (operated op a b)
  by-taken op e ints f g = let x = int-of refl f in let y = int-of refl g in both-are (λ a b. OutcomeFits p objects (gives (sort_of op) int_type) (operated op a b)) x.1 y.1 (numbers w32 value.Int (int-fits p objects) op x.0 y.0)
  by-taken op e longs f g = let x = long-of refl f in let y = long-of refl g in both-are (λ a b. OutcomeFits p objects (gives (sort_of op) long_type) (operated op a b)) x.1 y.1 (numbers w64 value.Long long-fits op x.0 y.0)
  by-taken op e int_long f g = let x = int-of refl f in let y = long-of refl g in both-are (λ a b. OutcomeFits p objects (gives (sort_of op) int_type) (operated op a b)) x.1 y.1 (shifts w32 value.Int (int-fits p objects) op x.0 y.0 e)
  by-taken op e long_int f g = let x = long-of refl f in let y = int-of refl g in both-are (λ a b. OutcomeFits p objects (gives (sort_of op) long_type) (operated op a b)) x.1 y.1 (shifts w64 value.Long long-fits op x.0 y.0 e)
  by-taken op e equal_truths f g = let x = bool-of refl f in let y = bool-of refl g in both-are (λ a b. OutcomeFits p objects (gives (sort_of op) bool_type) (operated op a b)) x.1 y.1 (equal-truths op x.0 y.0 e)
  by-taken op e truths f g = let x = bool-of refl f in let y = bool-of refl g in both-are (λ a b. OutcomeFits p objects (gives (sort_of op) bool_type) (operated op a b)) x.1 y.1 (bit-truths op x.0 y.0 e)
  by-taken op e (references q r) f g = references-compared _ op e (formed f) (formed g) q r

  pub operated-fits : {a b : Value} (op : BinOp) (s t : Ty) → takes (sort_of op) s t ≡ true → ValueFits p objects s a → ValueFits p objects t b → OutcomeFits p objects (gives (sort_of op) s) (operated op a b)
  operated-fits op s t e f g = by-taken op refl (taken (sort_of op) s t e) f g

  -- ---- one operand

  negative-int : {v : Value} → ValueFits p objects int_type v → OptionFits p objects int_type (operators.unary Minus v)
  negative-int f = let x = int-of refl f in subst (λ v. OptionFits p objects int_type (operators.unary Minus v)) (sym x.1) (record { value = _; there = refl; fits = int-fits p objects _ })

  negative-long : {v : Value} → ValueFits p objects long_type v → OptionFits p objects long_type (operators.unary Minus v)
  negative-long f = let x = long-of refl f in subst (λ v. OptionFits p objects long_type (operators.unary Minus v)) (sym x.1) (record { value = _; there = refl; fits = long-fits _ })

  inverse-int : {v : Value} → ValueFits p objects int_type v → OptionFits p objects int_type (operators.unary Tilde v)
  inverse-int f = let x = int-of refl f in subst (λ v. OptionFits p objects int_type (operators.unary Tilde v)) (sym x.1) (record { value = _; there = refl; fits = int-fits p objects _ })

  inverse-long : {v : Value} → ValueFits p objects long_type v → OptionFits p objects long_type (operators.unary Tilde v)
  inverse-long f = let x = long-of refl f in subst (λ v. OptionFits p objects long_type (operators.unary Tilde v)) (sym x.1) (record { value = _; there = refl; fits = long-fits _ })

  opposite-truth : {v : Value} → ValueFits p objects bool_type v → OptionFits p objects bool_type (operators.unary Not v)
  opposite-truth f = let x = bool-of refl f in subst (λ v. OptionFits p objects bool_type (operators.unary Not v)) (sym x.1) (record { value = _; there = refl; fits = truth-fits p objects _ })

  at-type : {v : Value} {o : Option Value} {t u : Ty} → t ≡ u → ValueFits p objects t v → (ValueFits p objects u v → OptionFits p objects u o) → OptionFits p objects t o
  at-type {v = v} {o = o} e f h = subst (λ (u : Ty). OptionFits p objects u o) (sym e) (h (subst (λ (u : Ty). ValueFits p objects u v) e f))

  on-promoted : {v : Value} {o : Option Value} (t : Ty) → (t ≡ int_type) ⊎ (t ≡ long_type) → ValueFits p objects t v → (ValueFits p objects int_type v → OptionFits p objects int_type o) →
      (ValueFits p objects long_type v → OptionFits p objects long_type o) → OptionFits p objects t o
  on-promoted t (inl e) f h k = at-type e f h
  on-promoted t (inr e) f h k = at-type e f k

  pub unary-fits : {v : Value} (op : UnOp) (t : Ty) → takes_one op t ≡ true → ValueFits p objects t v → OptionFits p objects t (operators.unary op v)
  unary-fits Minus t e f = on-promoted t (promoted-cases t e) f negative-int negative-long
  unary-fits Tilde t e f = on-promoted t (promoted-cases t e) f inverse-int inverse-long
  unary-fits Not t e f = at-type (same_type-equal t bool_type e) f opposite-truth

  -- ---- conversions

  based : {t : Ty} (z : ℤ) → Numeric t → OptionFits p objects t (as_base t.base z)
  based z a_byte = record { value = _; there = refl; fits = record { own = of base.Byte; has = refl; agree = refl } }
  based z a_short = record { value = _; there = refl; fits = record { own = of base.Short; has = refl; agree = refl } }
  based z a_char = record { value = _; there = refl; fits = record { own = of base.Char; has = refl; agree = refl } }
  based z an_int = record { value = _; there = refl; fits = int-fits p objects _ }
  based z a_long = record { value = _; there = refl; fits = long-fits _ }

  pub converted-fits : {v : Value} (s t : Ty) → is_number s ≡ true → is_number t ≡ true → ValueFits p objects s v → OptionFits p objects t (converted_in t.dims t.base v)
  converted-fits {v = v} s t e g f = by t (numeric t g) (numbered (numeric s e) (formed f))
    where
      by : (t : Ty) → Numeric t → (z : ℤ) × (number_of v ≡ Some z) → OptionFits p objects t (converted_in t.dims t.base v)
      by _ a_byte (z, q) = subst (λ o. OptionFits p objects (of base.Byte) (as_base_if base.Byte o)) (sym q) (based z a_byte)
      by _ a_short (z, q) = subst (λ o. OptionFits p objects (of base.Short) (as_base_if base.Short o)) (sym q) (based z a_short)
      by _ a_char (z, q) = subst (λ o. OptionFits p objects (of base.Char) (as_base_if base.Char o)) (sym q) (based z a_char)
      by _ an_int (z, q) = subst (λ o. OptionFits p objects (of base.Int) (as_base_if base.Int o)) (sym q) (based z an_int)
      by _ a_long (z, q) = subst (λ o. OptionFits p objects (of base.Long) (as_base_if base.Long o)) (sym q) (based z a_long)
