-- Elements of lists that are joined, mapped and filtered.
use Rattle.std.proofs.Common.{◌≡◌, ℕ, zero, suc, ◌<◌, List, [], ◌∷◌, ◌++◌, sym, subst, arith, inl, inr}
use Rattle.std.specs.Prelude.{Bool, true, ◌⊎◌, filter, cond}
use Rattle.std.specs.List.{flat_map, Contains}
use Rattle.je_classes.proofs.Lists.{bool_cases, contains-here, contains-later, contains-cases}
use Rattle.je_scopes.specs.Faults.{below}
use Rattle.je_scopes.proofs.Either.{by_either, nat_split, nothing-in}

pub in-left : {A : Type 0} (xs ys : List A) (y : A) → Contains xs y → Contains (xs ++ ys) y
in-left [] ys y q = absurd (nothing-in y q)
in-left (x ∷ xs) ys y q = by_either (λ e. subst (Contains (x ∷ (xs ++ ys))) e (contains-here x (xs ++ ys))) (λ r. contains-later x y (xs ++ ys) (in-left xs ys y r)) (contains-cases x y xs q)

pub in-right : {A : Type 0} (xs ys : List A) (y : A) → Contains ys y → Contains (xs ++ ys) y
in-right [] ys y q = q
in-right (x ∷ xs) ys y q = contains-later x y (xs ++ ys) (in-right xs ys y q)

pub in-either : {A : Type 0} (xs ys : List A) (y : A) → Contains (xs ++ ys) y → Contains xs y ⊎ Contains ys y
in-either [] ys y q = inr q
in-either (x ∷ xs) ys y q = by_either (λ e. inl (subst (Contains (x ∷ xs)) e (contains-here x xs))) (λ r. by_either (λ k. inl (contains-later x y xs k)) (λ k. inr k) (in-either xs ys y r)) (contains-cases x y (xs ++ ys) q)

pub in-flat : {A B : Type 0} (f : A → List B) (xs : List A) (x : A) (y : B) → Contains xs x → Contains (f x) y → Contains (flat_map f xs) y
in-flat f [] x y q r = absurd (nothing-in x q)
in-flat f (k ∷ xs) x y q r = by_either (λ e. in-left (f k) (flat_map f xs) y (subst (λ a. Contains (f a) y) (sym e) r)) (λ h. in-right (f k) (flat_map f xs) y (in-flat f xs x y h r)) (contains-cases k x xs q)

-- the element from which one of a flat list comes
pub record From {A B : Type 0} (f : A → List B) (xs : List A) (y : B) : Type 0 where
  pub from : A
  pub there : Contains xs from
  pub has : Contains (f from) y

pub flat-from : {A B : Type 0} (f : A → List B) (xs : List A) (y : B) → Contains (flat_map f xs) y → From f xs y
flat-from f [] y q = absurd (nothing-in y q)
flat-from f (x ∷ xs) y q = by_either (λ h. record { from = x; there = contains-here x xs; has = h })
    (λ h. let r = flat-from f xs y h in record { from = r.from; there = contains-later x r.from xs r.there; has = r.has }) (in-either (f x) (flat_map f xs) y q)

pub in-filter : {A : Type 0} (test : A → Bool) (xs : List A) (x : A) → Contains xs x → test x ≡ true → Contains (filter test xs) x
in-filter test [] x q e = absurd (nothing-in x q)
in-filter test (k ∷ xs) x q e = by_either
    (λ s. let t : test k ≡ true = subst (λ a. test a ≡ true) (sym s) e in subst (λ b. Contains (cond b (k ∷ filter test xs) (filter test xs)) x) (sym t) (subst (Contains (k ∷ filter test xs)) s (contains-here k (filter test xs))))
    (λ h. bool_cases (λ b. Contains (cond b (k ∷ filter test xs) (filter test xs)) x) (test k) (λ _. contains-later k x (filter test xs) (in-filter test xs x h e)) (λ _. in-filter test xs x h e))
    (contains-cases k x xs q)

pub in-below : (n c : ℕ) → c < n → Contains (below n) c
in-below zero c l = absurd (omega arith)
in-below (suc n) c l = by_either (λ e. in-right (below n) (n ∷ []) c (subst (Contains (n ∷ [])) (sym e) (contains-here n []))) (λ h. in-left (below n) (n ∷ []) c (in-below n c h)) (nat_split c n l)
