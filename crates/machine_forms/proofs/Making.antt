-- Arrays that are made: lengths one after another, and elements one after another.
use Rattle.std.proofs.Common.{◌≡◌, ◌≤◌, ◌<◌, ◌+◌, ◌*◌, ◌^◌, ℕ, suc, List, [], ◌∷◌, ◌++◌, length, drop, get_or, Some}
use Rattle.std.proofs.Common.{ℤ, pos, ◌≤ℤ◌, ◌<ℤ◌, of_z, w32, refl, sym, ap, ◌∙◌, add-one, arith}
use Rattle.std.proofs.Math.Seq.{drop-cons}
use Rattle.std.proofs.Math.ListN.{drop_of_length-le}
use Rattle.std.proofs.Math.Nat.{le-mul_of_pos_right}
use Rattle.std.proofs.lemmas.Int.{ints}
use Rattle.std.proofs.lemmas.List.{append-nil}
use Rattle.std.proofs.lemmas.Nat.{mul-le}
use Rattle.std.proofs.lemmas.Option.{slice_get_within, get_or_from_slice_get}
use Rattle.std.specs.Prelude.{negsuc, slice_get}
use Rattle.je_core.specs.declared.types.Ty.{Ty}
use Rattle.je_core.specs.declared.value.Value.{Value}
use Rattle.je_core.specs.declared.value.Value.TheVariants.{Int}
use Rattle.je_core.specs.Core.{CoreProgram}
use Rattle.je_java.specs.Raised.{negative_size}
use Rattle.je_java.specs.Steps.{State, Run, Exits, Computation, ret, bind, raise}
use Rattle.je_java.specs.Arrays.{count_of, counts_of, elements_of, element_of, nested, repeated, filled}

pub drop-got : {X : Type 0} (xs : List X) (at : ℕ) (x : X) → slice_get xs at ≡ Some x → drop at xs ≡ x ∷ drop (at + 1) xs
drop-got xs at x e = rw add-one (drop-cons xs at x (slice_get_within xs at x e) ∙ ap (λ y. y ∷ drop (suc at) xs) (get_or_from_slice_get xs at x x e))

-- a length below zero, and one that is not
pub length_below : (p : CoreProgram) (z : ℤ) → z <ℤ pos 0 → raise p negative_size ≡ count_of p (Int z)
length_below p (pos n) h = absurd (omega (arith, ints))
length_below p (negsuc n) h = refl

pub length_is : (p : CoreProgram) (z : ℤ) → pos 0 ≤ℤ z → ret (of_z w32 z) ≡ count_of p (Int z)
length_is p (pos n) h = refl
length_is p (negsuc n) h = absurd (omega (arith, ints))

-- one length more
pub counts_step : (p : CoreProgram) (vs : List Value) (at : ℕ) (v : Value) (m : Computation ℕ)
    (go : List ℕ → Run) (exits : Exits) (s : State) → slice_get vs at ≡ Some v → m ≡ count_of p v →
    counts_of p (drop at vs) go exits s ≡ m (λ n. counts_of p (drop (at + 1) vs) (λ ns. go (n ∷ ns)) exits) exits s
unfolding bind ret
counts_step p vs at v m go exits s e is =
    let rest : ℕ → Run = λ n. counts_of p (drop (at + 1) vs) (λ ns. go (n ∷ ns)) exits in
    ap (λ xs. counts_of p xs go exits s) (drop-got vs at v e)
    ∙ ap (λ (c : Computation ℕ). c rest exits s) (sym is)

-- all lengths
pub counts_end : (p : CoreProgram) (vs : List Value) (at : ℕ) (done : List ℕ)
    (go : List ℕ → Run) (exits : Exits) (s : State) → length vs ≤ at →
    counts_of p (drop at vs) (λ ns. go (done ++ ns)) exits s ≡ go done s
unfolding ret
counts_end p vs at done go exits s h =
    ap (λ xs. counts_of p xs (λ ns. go (done ++ ns)) exits s) (drop_of_length-le vs h)
    ∙ ap (λ ns. go ns s) (append-nil done)

-- so many elements are too many if those of one part are
pub times_over : (n all most : ℕ) → 0 < n → most < all → most < n + n * all
times_over n all most h over = omega (arith, le-mul_of_pos_right all h)

pub times_fits : (n all most : ℕ) → n < 2 ^ 32 → all ≤ most → most ≤ 100000000 → n * all ≤ 429496729600000000
times_fits n all most h k l = omega (arith, mul-le n all (2 ^ 32) 100000000 (omega arith) (omega arith))

pub elements_step : (ns : List ℕ) (at : ℕ) → at < length ns → elements_of (drop at ns) ≡ get_or ns at 0 + get_or ns at 0 * elements_of (drop (at + 1) ns)
elements_step ns at h = rw add-one (ap elements_of (drop-cons ns at 0 h))

-- the lengths from a place on
pub nested_step : (ty : Ty) (ns : List ℕ) (at : ℕ) → at < length ns →
    nested ty (drop at ns) ≡ repeated (get_or ns at 0) (nested (element_of ty) (drop (at + 1) ns)) (filled (element_of ty)) []
nested_step ty ns at h = rw add-one (ap (nested ty) (drop-cons ns at 0 h))

pub nested_end : (ty : Ty) (ns : List ℕ) (at : ℕ) → length ns ≤ at → nested ty (drop at ns) ≡ nested ty []
nested_end ty ns at h = ap (nested ty) (drop_of_length-le ns h)

-- one value more
pub repeated_step : (n : ℕ) (m : Computation Value) (fill : List Value → Computation Value) (done : List Value) (go : Value → Run) (exits : Exits) (s : State) →
    repeated (suc n) m fill done go exits s ≡ m (λ v. repeated n m fill (done ++ v ∷ []) go exits) exits s
unfolding bind
repeated_step n m fill done go exits s = refl
