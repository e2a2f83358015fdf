-- A way through a graph that leads anywhere leads there in no more steps than there are places: one that comes by a place twice
-- can be cut short.
use Rattle.std.proofs.Common.{◌≡◌, ℕ, zero, suc, ◌<◌, ◌≤◌, List, [], ◌∷◌, length, refl, subst, arith}
use Rattle.std.specs.Prelude.{Bool, true, false, ◌||◌, nat_eq}
use Rattle.std.specs.List.{list_any, Contains, IsDistinct, AllByRecursion}
use Rattle.std.proofs.lemmas.Bool.Decides.{nat_tests}
use Rattle.std.proofs.lemmas.Map.Steps.{length-le_from_distinct_below}
use Rattle.je_classes.proofs.Lists.{bool_cases}

none-there : (n : ℕ) (xs : List ℕ) → list_any (nat_eq n) xs ≡ false → AllByRecursion (λ y. nat_eq n y ≡ false) xs
none-there n [] e = tt
none-there n (x ∷ xs) e = bool_cases (λ b. nat_eq n x ≡ b → (b || list_any (nat_eq n) xs) ≡ false → AllByRecursion (λ y. nat_eq n y ≡ false) (x ∷ xs)) (nat_eq n x)
    (λ _ q h. absurd cc)
    (λ _ q h. (q, none-there n xs h)) refl e

-- places of any kind, each with a number of its own
module _ {A : Type 0} (edges : A → List A) (number : A → ℕ) (one : (a b : A) → number a ≡ number b → a ≡ b) where
  -- the numbers of the places from which it goes on
  data Path : A → List ℕ → A → Type 0 where
    arrived : {c : A} → Path c [] c
    step : {c e d : A} {xs : List ℕ} → Contains (edges c) e → Path e xs d → Path c (number c ∷ xs) d

  pub record Way (c d : A) : Type 0 where
    numbers : List ℕ
    path : Path c numbers d
    distinct : IsDistinct nat_eq numbers

  -- what is left of a path from a place that it comes by
  cut : (c : A) {e d : A} {xs : List ℕ} → Path e xs d → IsDistinct nat_eq xs → list_any (nat_eq (number c)) xs ≡ true → Way c d
  unfolding IsDistinct
  cut c arrived u h = absurd cc
  cut c {d = d} (step {c = e} {xs = xs} q r) u h = bool_cases (λ b. nat_eq (number c) (number e) ≡ b → (b || list_any (nat_eq (number c)) xs) ≡ true → Way c d) (nat_eq (number c) (number e))
      (λ _ g _. let s : number e ≡ number c = grind (arith, nat_tests) in subst (λ k. Way k d) (one e c s) (record { numbers = number e ∷ xs; path = step q r; distinct = u }))
      (λ _ g k. cut c r u.1 k) refl h

  pub here : (c : A) → Way c c
  unfolding IsDistinct
  here c = record { numbers = []; path = arrived; distinct = tt }

  pub longer : (c e d : A) → Contains (edges c) e → Way e d → Way c d
  unfolding IsDistinct
  longer c e d q w = bool_cases (λ b. list_any (nat_eq (number c)) w.numbers ≡ b → Way c d) (list_any (nat_eq (number c)) w.numbers)
      (λ _ h. cut c w.path w.distinct h)
      (λ _ h. record { numbers = number c ∷ w.numbers; path = step q w.path; distinct = (none-there (number c) w.numbers h, w.distinct) }) refl

  -- where each place from which an edge leads has a number below a bound, and a test holds at each place of itself and along
  -- each edge with one step more, it holds with so many steps as the bound
  module _ (n : ℕ) (within : (c e : A) → Contains (edges c) e → number c < n) (reach : ℕ → A → A → Bool) (itself : (m : ℕ) (c : A) → reach m c c ≡ true)
      (further : (m : ℕ) (c e d : A) → Contains (edges c) e → reach m e d ≡ true → reach (suc m) c d ≡ true) where
    all-within : {c d : A} {xs : List ℕ} → Path c xs d → (m : ℕ) → list_any (nat_eq m) xs ≡ true → m < n
    all-within arrived m h = absurd cc
    all-within (step {c = c} {e = e} {xs = xs} q r) m h = bool_cases (λ b. nat_eq m (number c) ≡ b → (b || list_any (nat_eq m) xs) ≡ true → m < n) (nat_eq m (number c))
        (λ _ g _. let s : number c < n = within c e q in let k : m ≡ number c = grind (arith, nat_tests) in omega (arith, s, k))
        (λ _ g k. all-within r m k) refl h

    along : {c d : A} {xs : List ℕ} → Path c xs d → (m : ℕ) → length xs ≤ m → reach m c d ≡ true
    along (arrived {c = c}) m h = itself m c
    along (step q r) zero h = absurd (omega arith)
    along (step {c = c} {e = e} {d = d} q r) (suc m) h = further m c e d q (along r m (omega arith))

    pub reached : (c d : A) → Way c d → reach n c d ≡ true
    reached c d w = along w.path n (length-le_from_distinct_below w.numbers n w.distinct (all-within w.path))
