-- A test of each number below a bound, in order.
use Rattle.std.proofs.Common.{◌≡◌, ℕ, zero, suc, ◌+◌, ◌-◌, ◌<◌, ◌≤◌, refl, ap, ◌∙◌, subst, arith}
use Rattle.std.specs.Prelude.{Bool, true, false, ◌&&◌}
use Rattle.std.specs.List.{list_all}
use Rattle.je_fitting.specs.Expressions.{places_up_to}
use Rattle.je_fitting.proofs.Booleans.{two, both}
use Rattle.je_fitting.proofs.Quantified.{each-place, places-pass}
use Rattle.class_lookup.proofs.Above.{same-test}

-- from one on, so many
abbrev pub places_from : (ℕ → Bool) → ℕ → ℕ → Bool
places_from test k zero = true
places_from test k (suc n) = test k && places_from test (suc k) n

from-each : (test : ℕ → Bool) (k n : ℕ) → ((i : ℕ) → i < n → test (k + i) ≡ true) → places_from test k n ≡ true
from-each test k zero f = refl
from-each test k (suc n) f = both (let z : k + 0 ≡ k = omega arith in subst (λ i. test i ≡ true) z (f 0 (omega arith)))
    (from-each test (suc k) n (λ i l. let z : k + suc i ≡ suc k + i = omega arith in subst (λ j. test j ≡ true) z (f (suc i) (omega (arith, l)))))

to-each : (test : ℕ → Bool) (k n : ℕ) → places_from test k n ≡ true → (i : ℕ) → i < n → test (k + i) ≡ true
to-each test k zero h i l = absurd (omega arith)
to-each test k (suc n) h zero l = let z : k ≡ k + 0 = omega arith in subst (λ j. test j ≡ true) z (two {a = test k} {b = places_from test (suc k) n} h).0
to-each test k (suc n) h (suc i) l = let z : suc k + i ≡ k + suc i = omega arith in subst (λ j. test j ≡ true) z (to-each test (suc k) n (two {a = test k} {b = places_from test (suc k) n} h).1 i (omega (arith, l)))

pub all_places : (test : ℕ → Bool) (n : ℕ) → list_all test (places_up_to n) ≡ places_from test 0 n
all_places test n = same-test (list_all test (places_up_to n)) (places_from test 0 n)
    (λ h. from-each test 0 n (λ i l. let z : i ≡ 0 + i = omega arith in subst (λ j. test j ≡ true) z (each-place test n h i l)))
    (λ h. places-pass test n (λ i l. let z : 0 + i ≡ i = omega arith in subst (λ j. test j ≡ true) z (to-each test 0 n h i l)))

pub one_more_place : (test : ℕ → Bool) (k n : ℕ) → 0 < n → places_from test k n ≡ (test k && places_from test (k + 1) (n - 1))
one_more_place test k zero l = absurd (omega arith)
one_more_place test k (suc n) l = let s : suc k ≡ k + 1 = omega arith in let t : n ≡ suc n - 1 = omega arith in λ i. test k && places_from test (s i) (t i)

-- a place at which the test passes, and one at which it fails
pub place_passes : (test : ℕ → Bool) (j n : ℕ) → j < n → test j ≡ true →
    places_from test j (n - j) ≡ places_from test (j + 1) (n - (j + 1))
place_passes test j n l e =
    let s : n - j - 1 ≡ n - (j + 1) = omega arith in
    one_more_place test j (n - j) (omega arith) ∙ ap (λ b. b && places_from test (j + 1) (n - j - 1)) e
    ∙ ap (places_from test (j + 1)) s

pub place_fails : (test : ℕ → Bool) (j n : ℕ) → j < n → test j ≡ false → places_from test j (n - j) ≡ false
place_fails test j n l e =
    one_more_place test j (n - j) (omega arith) ∙ ap (λ b. b && places_from test (j + 1) (n - j - 1)) e

pub no_place_left : (test : ℕ → Bool) (j n : ℕ) → n ≤ j → places_from test j (n - j) ≡ true
no_place_left test j n l = let s : n - j ≡ 0 = omega arith in ap (places_from test j) s
