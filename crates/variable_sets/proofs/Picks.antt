-- Picking, of sets and of exits.
use Rattle.std.proofs.Common.{◌≡◌, ℕ, ◌<◌, ◌/◌, ◌%◌, Bool, true, false, ◌&&◌, ◌||◌, List, [], ◌∷◌, get_or, if◌then◌else◌, refl, ap, sym, ◌∙◌, zero, suc, bit_and, bit_xor, arith, min, ◌+◌}
use Rattle.std.specs.Prelude.{nat_eq}
use Rattle.std.specs.Int.{bit_at}
use Rattle.std.proofs.lemmas.Nat.Bits.{bit_at_and, bit_at_xor, bit_at-lt}
use Rattle.flow_base.specs.declared.jumps.Way.{Way}
use Rattle.flow_base.specs.Ways.{same_way}
use Rattle.flow_base.proofs.SameWays.{same_way_true}
use Rattle.variable_sets.specs.declared.exits.Exit.{Exit}
use Rattle.variable_sets.specs.Sets.{Set, everything, nothing, both, either, pick}
use Rattle.variable_sets.specs.SetView.{set_view}
use Rattle.variable_sets.specs.ExitSets.{Exits, no_exits, exit_by, met, beyond, gaining, picked}
use Rattle.variable_sets.specs.way.Lists.{look, there, exits_of, putting}
use Rattle.variable_sets.specs.way.Words.{words_hold, picked_word}
use Rattle.variable_sets.proofs.Looks.{both_everything, everything_both, both_assoc, look_both, either_both, everything_or}

-- ---- words

-- by the bits of three words at one place
pick_tests : (x a b : ℕ) → x < 2 → a < 2 → b < 2 → nat_eq ((b + min ((a + b) % 2) x) % 2) 1 ≡ (if nat_eq x 1 then nat_eq a 1 else nat_eq b 1)
pick_tests zero zero zero p q r = refl
pick_tests zero zero (suc zero) p q r = refl
pick_tests zero (suc zero) zero p q r = refl
pick_tests zero (suc zero) (suc zero) p q r = refl
pick_tests (suc zero) zero zero p q r = refl
pick_tests (suc zero) zero (suc zero) p q r = refl
pick_tests (suc zero) (suc zero) zero p q r = refl
pick_tests (suc zero) (suc zero) (suc zero) p q r = refl
pick_tests (suc (suc x)) a b p q r = absurd (omega (arith, p))
pick_tests zero (suc (suc a)) b p q r = absurd (omega (arith, q))
pick_tests (suc zero) (suc (suc a)) b p q r = absurd (omega (arith, q))
pick_tests zero zero (suc (suc b)) p q r = absurd (omega (arith, r))
pick_tests zero (suc zero) (suc (suc b)) p q r = absurd (omega (arith, r))
pick_tests (suc zero) zero (suc (suc b)) p q r = absurd (omega (arith, r))
pick_tests (suc zero) (suc zero) (suc (suc b)) p q r = absurd (omega (arith, r))

picked_bit : (x a b i : ℕ) → nat_eq (bit_at (picked_word x a b) i) 1 ≡ (if nat_eq (bit_at x i) 1 then nat_eq (bit_at a i) 1 else nat_eq (bit_at b i) 1)
picked_bit x a b i =
    ap (λ n. nat_eq n 1)
    (bit_at_xor b (bit_and (bit_xor a b) x) i
    ∙ ap (λ n. (bit_at b i + n) % 2) (bit_at_and (bit_xor a b) x i ∙ ap (λ n. min n (bit_at x i)) (bit_at_xor a b i)))
    ∙ pick_tests (bit_at x i) (bit_at a i) (bit_at b i) (bit_at-lt x i) (bit_at-lt a i) (bit_at-lt b i)

pub words_picked : (ws xs ys zs : List ℕ) (c d e : ℕ) →
    ((k : ℕ) → get_or ws k (picked_word c d e) ≡ picked_word (get_or xs k c) (get_or ys k d) (get_or zs k e)) →
    words_hold ws (picked_word c d e) ≡ pick (words_hold xs c) (words_hold ys d) (words_hold zs e)
unfolding words_hold pick
words_picked ws xs ys zs c d e h = λ i. record {
  has = λ v. (ap (λ w. nat_eq (bit_at w (v % 64)) 1) (h (v / 64)) ∙ picked_bit (get_or xs (v / 64) c) (get_or ys (v / 64) d) (get_or zs (v / 64) e) (v % 64)) i;
}

-- ---- exits

or_true : (a : Bool) → (a || true) ≡ true
or_true true = refl
or_true false = refl

or_false : (a : Bool) → (a || false) ≡ a
or_false true = refl
or_false false = refl

-- the exits by one way, in one
put_by : (w v : Way) (e : Exits) (s : Set) (t : Bool) → same_way w v ≡ t →
    both (if t then everything else e.by v) (if t then both (e.by w) s else everything) ≡ both (e.by v) (if t then s else everything)
put_by w v e s true h = everything_both (both (e.by w) s) ∙ ap (λ (u : Way). both (e.by u) s) (same_way_true w v h)
put_by w v e s false h = refl

put_there : (a t : Bool) → ((if t then false else a) || (if t then true else false)) ≡ (a || (if t then true else false))
put_there a true = sym (or_true a)
put_there a false = refl

pub put_is : (w : Way) (e : Exits) (s : Set) → met (beyond w e) (exit_by w (both (e.by w) s)) ≡ met e (exit_by w s)
unfolding met beyond exit_by
put_is w e s = λ i. record { by = λ v. put_by w v e s (same_way w v) refl i; is_there = λ v. put_there (e.is_there v) (same_way w v) i }

put_one_by : (g e s : Set) (t : Bool) (xs : List Exit) (v : Way) →
    both (both e (if t then either s g else everything)) (either (look everything xs v) g) ≡ both e (either (look (if t then both everything s else everything) xs v) g)
put_one_by g e s true xs v =
    both_assoc e (either s g) (either (look everything xs v) g)
    ∙ ap (both e) (sym (either_both s (look everything xs v) g) ∙ ap (λ (u : Set). either u g) (sym (look_both xs s v) ∙ ap (λ (u : Set). look u xs v) (sym (everything_both s))))
put_one_by g e s false xs v = ap (λ (u : Set). both u (either (look everything xs v) g)) (both_everything e)

put_one_there : (a t r : Bool) → ((a || (if t then true else false)) || r) ≡ (a || (if t then true else r))
put_one_there true t r = refl
put_one_there false true r = refl
put_one_there false false r = refl

put_one : (g : Set) (e : Exits) (x : Exit) (xs : List Exit) → met (met e (exit_by x.way (either (set_view x.before) g))) (gaining g (exits_of xs)) ≡ met e (gaining g (exits_of (x ∷ xs)))
unfolding met exit_by gaining exits_of
put_one g e x xs = λ i. record {
  by = λ v. put_one_by g (e.by v) (set_view x.before) (same_way x.way v) xs v i;
  is_there = λ v. put_one_there (e.is_there v) (same_way x.way v) (there xs v) i;
}

put_none : (g : Set) (e : Exits) → e ≡ met e (gaining g (exits_of []))
unfolding met gaining exits_of
put_none g e = λ i. record {
  by = λ v. (sym (both_everything (e.by v)) ∙ ap (both (e.by v)) (sym (everything_or g))) i;
  is_there = λ v. sym (or_false (e.is_there v)) i;
}

putting_is : (g : Set) (xs : List Exit) (e : Exits) → putting g xs e ≡ met e (gaining g (exits_of xs))
putting_is g [] e = put_none g e
putting_is g (x ∷ xs) e = putting_is g xs (met e (exit_by x.way (either (set_view x.before) g))) ∙ put_one g e x xs

pick_bit : (x a b : Bool) → ((a || (if x then false else true)) && (b || x)) ≡ (if x then a else b)
pick_bit true true true = refl
pick_bit true true false = refl
pick_bit true false true = refl
pick_bit true false false = refl
pick_bit false true true = refl
pick_bit false true false = refl
pick_bit false false true = refl
pick_bit false false false = refl

picked_by : (x a b : Set) → both (both everything (either a (pick x nothing everything))) (either b x) ≡ pick x a b
unfolding both either everything nothing pick
picked_by x a b = λ i. record { has = λ v. pick_bit (x.has v) (a.has v) (b.has v) i }

picked_exits : (x : Set) (a b : Exits) → met (met no_exits (gaining (pick x nothing everything) a)) (gaining x b) ≡ picked x a b
unfolding met gaining no_exits picked
picked_exits x a b = λ i. record { by = λ v. picked_by x (a.by v) (b.by v) i; is_there = λ v. a.is_there v || b.is_there v }

pub picked_is : (x : Set) (xs ys : List Exit) → putting x ys (putting (pick x nothing everything) xs no_exits) ≡ picked x (exits_of xs) (exits_of ys)
picked_is x xs ys =
    putting_is x ys (putting (pick x nothing everything) xs no_exits)
    ∙ ap (λ (e : Exits). met e (gaining x (exits_of ys))) (putting_is (pick x nothing everything) xs no_exits)
    ∙ picked_exits x (exits_of xs) (exits_of ys)
