-- Words of bits, by which variables they have.
use Rattle.std.proofs.Common.{◌≡◌, ◌≢◌, ℕ, ◌<◌, ◌-◌, ◌/◌, ◌%◌, ◌*◌, ◌^◌, Bool, true, false, ◌&&◌, ◌||◌, List, [], get_or, if◌then◌else◌, refl, ap, sym, ◌∙◌, zero, suc, bit_and, bit_or, arith}
use Rattle.std.specs.Prelude.{nat_eq, min, max}
use Rattle.std.specs.Int.{bit_at, bit_not, w64}
use Rattle.std.proofs.lemmas.Bool.Decides.{nat_tests}
use Rattle.std.proofs.lemmas.Nat.Bits.{bit_at-zero, bit_at_ones, bit_at_and, bit_at_or, bit_at-lt, bit_at_set_same, bit_at_set_other, bit_at_clear_same, bit_at_clear_other}
use Rattle.variable_sets.specs.Sets.{everything, nothing, both, either, adding, removing}
use Rattle.variable_sets.specs.way.Words.{words_hold}

in_word : (v : ℕ) → v % 64 < 64
in_word v = omega arith

none_behind : (k d : ℕ) → get_or [] k d ≡ d
none_behind zero d = refl
none_behind (suc k) d = refl

all_bits : (v : ℕ) → nat_eq (bit_at (get_or [] (v / 64) (2 ^ 64 - 1)) (v % 64)) 1 ≡ true
all_bits v = rw (none_behind (v / 64) (2 ^ 64 - 1), bit_at_ones 64 (v % 64) (in_word v)) refl

no_bits : (v : ℕ) → nat_eq (bit_at (get_or [] (v / 64) 0) (v % 64)) 1 ≡ false
no_bits v = rw (none_behind (v / 64) 0, bit_at-zero (v % 64)) refl

pub all_of_none : (xs : List ℕ) → xs ≡ [] → words_hold xs 18446744073709551615 ≡ everything
unfolding words_hold everything
all_of_none xs h = ap (λ (l : List ℕ). words_hold l 18446744073709551615) h ∙ λ i. record { has = λ v. all_bits v i }

pub none_of_none : (xs : List ℕ) → xs ≡ [] → words_hold xs 0 ≡ nothing
unfolding words_hold nothing
none_of_none xs h = ap (λ (l : List ℕ). words_hold l 0) h ∙ λ i. record { has = λ v. no_bits v i }

-- ---- two sets

bit_and_tests : (x y : ℕ) → x < 2 → y < 2 → nat_eq (min x y) 1 ≡ (nat_eq x 1 && nat_eq y 1)
bit_and_tests zero zero p q = refl
bit_and_tests zero (suc zero) p q = refl
bit_and_tests (suc zero) zero p q = refl
bit_and_tests (suc zero) (suc zero) p q = refl
bit_and_tests zero (suc (suc y)) p q = absurd (omega (arith, q))
bit_and_tests (suc zero) (suc (suc y)) p q = absurd (omega (arith, q))
bit_and_tests (suc (suc x)) y p q = absurd (omega (arith, p))

bit_or_tests : (x y : ℕ) → x < 2 → y < 2 → nat_eq (max x y) 1 ≡ (nat_eq x 1 || nat_eq y 1)
bit_or_tests zero zero p q = refl
bit_or_tests zero (suc zero) p q = refl
bit_or_tests (suc zero) zero p q = refl
bit_or_tests (suc zero) (suc zero) p q = refl
bit_or_tests zero (suc (suc y)) p q = absurd (omega (arith, q))
bit_or_tests (suc zero) (suc (suc y)) p q = absurd (omega (arith, q))
bit_or_tests (suc (suc x)) y p q = absurd (omega (arith, p))

and_bit : (a b i : ℕ) → nat_eq (bit_at (bit_and a b) i) 1 ≡ (nat_eq (bit_at a i) 1 && nat_eq (bit_at b i) 1)
and_bit a b i = ap (λ n. nat_eq n 1) (bit_at_and a b i) ∙ bit_and_tests (bit_at a i) (bit_at b i) (bit_at-lt a i) (bit_at-lt b i)

or_bit : (a b i : ℕ) → nat_eq (bit_at (bit_or a b) i) 1 ≡ (nat_eq (bit_at a i) 1 || nat_eq (bit_at b i) 1)
or_bit a b i = ap (λ n. nat_eq n 1) (bit_at_or a b i) ∙ bit_or_tests (bit_at a i) (bit_at b i) (bit_at-lt a i) (bit_at-lt b i)

pub words_both : (xs ys zs : List ℕ) (d e : ℕ) → ((k : ℕ) → get_or zs k (bit_and d e) ≡ bit_and (get_or xs k d) (get_or ys k e)) → words_hold zs (bit_and d e) ≡ both (words_hold xs d) (words_hold ys e)
unfolding words_hold both
words_both xs ys zs d e h = λ i. record { has = λ v. (ap (λ w. nat_eq (bit_at w (v % 64)) 1) (h (v / 64)) ∙ and_bit (get_or xs (v / 64) d) (get_or ys (v / 64) e) (v % 64)) i }

pub words_either : (xs ys zs : List ℕ) (d e : ℕ) → ((k : ℕ) → get_or zs k (bit_or d e) ≡ bit_or (get_or xs k d) (get_or ys k e)) → words_hold zs (bit_or d e) ≡ either (words_hold xs d) (words_hold ys e)
unfolding words_hold either
words_either xs ys zs d e h = λ i. record { has = λ v. (ap (λ w. nat_eq (bit_at w (v % 64)) 1) (h (v / 64)) ∙ or_bit (get_or xs (v / 64) d) (get_or ys (v / 64) e) (v % 64)) i }

-- ---- one bit

-- two variables in one word are one where their bits are
same_place : (v x : ℕ) → v / 64 ≡ x / 64 → v % 64 ≡ x % 64 → v ≡ x
same_place v x p q = omega (arith, p, q)

div_same : (v x : ℕ) → nat_eq v x ≡ true → nat_eq (v / 64) (x / 64) ≡ true
div_same v x h = grind (arith, nat_tests)

-- what a word put at a place has of a variable, by whether it is that word and that bit
module _ (xs : List ℕ) (d x w : ℕ) (t : Bool)
    (same : nat_eq (bit_at w (x % 64)) 1 ≡ t)
    (other : (i : ℕ) → i < 64 → i ≢ x % 64 → bit_at w i ≡ bit_at (get_or xs (x / 64) d) i) where
  by_bit : (v : ℕ) → v / 64 ≡ x / 64 → (s : Bool) → nat_eq v x ≡ s → nat_eq (bit_at w (v % 64)) 1 ≡ (if s then t else nat_eq (bit_at (get_or xs (v / 64) d) (v % 64)) 1)
  by_bit v p true e = let q : v ≡ x = grind (arith, nat_tests) in ap (λ u. nat_eq (bit_at w (u % 64)) 1) q ∙ same
  by_bit v p false e =
      ap (λ n. nat_eq n 1)
      (other (v % 64) (in_word v) (λ r. let q : v ≡ x = same_place v x p r in grind (arith, nat_tests))
      ∙ ap (λ k. bit_at (get_or xs k d) (v % 64)) (sym p))

  by_word : (v : ℕ) (s : Bool) → nat_eq (v / 64) (x / 64) ≡ s → nat_eq (bit_at (if s then w else get_or xs (v / 64) d) (v % 64)) 1 ≡ (if nat_eq v x then t else nat_eq (bit_at (get_or xs (v / 64) d) (v % 64)) 1)
  by_word v true e = let p : v / 64 ≡ x / 64 = grind (arith, nat_tests) in by_bit v p (nat_eq v x) refl
  by_word v false e = let q : nat_eq v x ≡ false = elsewhere (nat_eq v x) refl in ap (λ (s : Bool). if s then t else nat_eq (bit_at (get_or xs (v / 64) d) (v % 64)) 1) (sym q)
    where
      elsewhere : (s : Bool) → nat_eq v x ≡ s → s ≡ false
      elsewhere false f = refl
      elsewhere true f = sym (div_same v x f) ∙ e

pub words_adding : (xs ys : List ℕ) (d x : ℕ) → ((k : ℕ) → get_or ys k d ≡ (if nat_eq k (x / 64) then bit_or (get_or xs (x / 64) d) (1 * 2 ^ (x % 64) % 2 ^ 64) else get_or xs k d)) → words_hold ys d ≡ adding x (words_hold xs d)
unfolding words_hold adding
words_adding xs ys d x h = λ i. record {
  has = λ v. (ap (λ u. nat_eq (bit_at u (v % 64)) 1) (h (v / 64)) ∙ by_word xs d x (bit_or (get_or xs (x / 64) d) (1 * 2 ^ (x % 64) % 2 ^ 64)) true
      (ap (λ n. nat_eq n 1) (bit_at_set_same w64 (get_or xs (x / 64) d) (x % 64) (in_word x)))
      (λ i q r. bit_at_set_other w64 (get_or xs (x / 64) d) (x % 64) (in_word x) i r) v (nat_eq (v / 64) (x / 64)) refl) i;
}

pub words_removing : (xs ys : List ℕ) (d x : ℕ) → ((k : ℕ) → get_or ys k d ≡ (if nat_eq k (x / 64) then bit_and (get_or xs (x / 64) d) (bit_not w64 (1 * 2 ^ (x % 64) % 2 ^ 64)) else get_or xs k d)) → words_hold ys d ≡ removing x (words_hold xs d)
unfolding words_hold removing
words_removing xs ys d x h = λ i. record {
  has = λ v. (ap (λ u. nat_eq (bit_at u (v % 64)) 1) (h (v / 64)) ∙ by_word xs d x (bit_and (get_or xs (x / 64) d) (bit_not w64 (1 * 2 ^ (x % 64) % 2 ^ 64))) false
      (ap (λ n. nat_eq n 1) (bit_at_clear_same w64 (get_or xs (x / 64) d) (x % 64) (in_word x)))
      (λ i q r. bit_at_clear_other w64 (get_or xs (x / 64) d) (x % 64) (in_word x) i q r) v (nat_eq (v / 64) (x / 64)) refl) i;
}
