-- Cases of a choice of two, of a test, and of numbers below a bound; no list is empty that has an element.
use Rattle.std.proofs.Common.{◌≡◌, ℕ, zero, suc, ◌<◌, ◌≤◌, refl, arith, inl, inr}
use Rattle.std.specs.Prelude.{Bool, true, false, ◌⊎◌, []}
use Rattle.std.specs.List.{Contains}

pub by_either : {X Y Z : Type 0} → (X → Z) → (Y → Z) → X ⊎ Y → Z
by_either p q (inl x) = p x
by_either p q (inr x) = q x

pub bool_split : (b : Bool) → (b ≡ true) ⊎ (b ≡ false)
bool_split true = inl refl
bool_split false = inr refl

pub nat_split : (m k : ℕ) → m < suc k → (m ≡ k) ⊎ (m < k)
nat_split zero zero h = inl refl
nat_split zero (suc k) h = inr (omega arith)
nat_split (suc m) zero h = absurd (omega arith)
nat_split (suc m) (suc k) h = by_either (λ e. inl (rw e refl)) (λ l. inr (omega arith)) (nat_split m k (omega arith))

pub within_or_past : (c n : ℕ) → (c < n) ⊎ (n ≤ c)
within_or_past zero zero = inr (omega arith)
within_or_past zero (suc n) = inl (omega arith)
within_or_past (suc c) zero = inr (omega arith)
within_or_past (suc c) (suc n) = by_either (λ l. inl (omega arith)) (λ l. inr (omega arith)) (within_or_past c n)

pub nothing-in : {A : Type 0} (x : A) → ¬ Contains [] x
nothing-in x q = let h : q.0 < 0 = q.1 in absurd (omega (arith, h))
