-- How many numbers below a bound pass a test.
use Rattle.std.proofs.Common.{◌≡◌, ℕ, zero, suc, ◌+◌, ◌<◌, ◌≤◌, refl, subst, arith}
use Rattle.std.specs.Prelude.{Bool, true, false, nat_eq}
use Rattle.std.proofs.lemmas.Bool.Decides.{nat_tests}
use Rattle.je_classes.proofs.Lists.{bool_cases}

abbrev pub one_if : Bool → ℕ
one_if true = 1
one_if false = 0

abbrev pub counted : (ℕ → Bool) → ℕ → ℕ
counted test zero = 0
counted test (suc n) = counted test n + one_if (test n)

one-le : (a b : Bool) → (a ≡ true → b ≡ true) → one_if a ≤ one_if b
one-le true b f = rw (f refl) (omega arith)
one-le false b f = omega arith

pub counted-le : (t u : ℕ → Bool) (n : ℕ) → ((i : ℕ) → i < n → t i ≡ true → u i ≡ true) → counted t n ≤ counted u n
counted-le t u zero f = omega arith
counted-le t u (suc n) f = let a : counted t n ≤ counted u n = counted-le t u n (λ i lt. f i (omega arith)) in let b : one_if (t n) ≤ one_if (u n) = one-le (t n) (u n) (f n (omega arith)) in omega (arith, a, b)

pub counted-lt : (t u : ℕ → Bool) (n : ℕ) → ((i : ℕ) → i < n → t i ≡ true → u i ≡ true) → (j : ℕ) → j < n → t j ≡ false → u j ≡ true → counted t n < counted u n
counted-lt t u zero f j lt a b = absurd (omega arith)
counted-lt t u (suc n) f j lt a b = bool_cases (λ k. nat_eq j n ≡ k → counted t (suc n) < counted u (suc n)) (nat_eq j n)
    (λ _ h. let e : j ≡ n = grind (arith, nat_tests) in
    let x : counted t n ≤ counted u n = counted-le t u n (λ i l. f i (omega arith)) in
    let y : one_if (t n) ≡ 0 = subst (λ k. one_if (t k) ≡ 0) e (rw a refl) in
    let z : one_if (u n) ≡ 1 = subst (λ k. one_if (u k) ≡ 1) e (rw b refl) in omega (arith, x, y, z))
    (λ _ h. let e : ¬ j ≡ n = grind (arith, nat_tests) in
    let x : counted t n < counted u n = counted-lt t u n (λ i l. f i (omega arith)) j (omega (arith, e)) a b in
    let y : one_if (t n) ≤ one_if (u n) = one-le (t n) (u n) (f n (omega arith)) in omega (arith, x, y)) refl

pub all-true : (n : ℕ) → counted (λ i. true) n ≡ n
all-true zero = refl
all-true (suc n) = let x : counted (λ i. true) n ≡ n = all-true n in omega (arith, x)

pub counted-within : (t : ℕ → Bool) (n j : ℕ) → j < n → t j ≡ false → counted t n < n
counted-within t n j lt a = let x : counted t n < counted (λ i. true) n = counted-lt t (λ i. true) n (λ i l e. refl) j lt a refl in let y : counted (λ i. true) n ≡ n = all-true n in omega (arith, x, y)
