-- In a sorted table the first row that isn't before the key is the first row that has it, or none has it.
use Rattle.std.proofs.Common.{◌≡◌, ℕ, zero, suc, ◌<◌, ◌≤◌, Bool, true, false, List, [], ◌∷◌, length, get_or, map, nat_lt, Some, None, refl, sym, ◌∙◌, inl, inr, arith}
use Rattle.std.specs.List.{position, position_or_len}
use Rattle.std.specs.List.Sorted.{IsNonDecreasingBy, IsPartitionedBy}
use Rattle.std.specs.Cmp.{IsTotalOrder}
use Rattle.std.specs.declared.cmp.Ordering.{Ordering}
use Rattle.std.specs.declared.cmp.Ordering.TheVariants.{Less, Equal, Greater}
use Rattle.std.specs.Ordering.{is_lt, is_eq, is_gt, ordering_index}
use Rattle.std.proofs.lemmas.Bool.{and_parts, not-true, cases_lt}
use Rattle.std.proofs.lemmas.Bool.Decides.{nat_tests}
use Rattle.std.proofs.lemmas.List.{get_or-map, length-map}
use Rattle.std.proofs.lemmas.List.Sums.{position_or_len_is}
use Rattle.je_table.specs.Tables.{is_sorted}
use Rattle.je_table.specs.way.Boundary.{IsBoundary}

module _ {X K : Type 0} (key : X → K) {R : K → K → Ordering} (total : IsTotalOrder R) (word : K) where
  -- 0 for a row before the word, 1 for the word, 2 for a row after it
  abbrev pub place : X → ℕ
  place x = ordering_index (R (key x) word)

  compared : (a b : K) (r s : Ordering) → R a b ≡ r → is_gt r ≡ false → R b word ≡ s → ordering_index (R a word) ≤ ordering_index s
  compared a b Less Less e h f = rw (total.trans a b word e f) (omega arith)
  compared a b Less Equal e h f = rw (total.antisymm a word, ← total.congr b word a f, total.antisymm b a, e) (omega arith)
  compared a b Less Greater e h f = elim (R a word) as (λ o. ordering_index o ≤ 2) [ Less ↦ omega arith | Equal ↦ omega arith | Greater ↦ omega arith ]
  compared a b Equal s e h f = rw (total.congr a b word e, f) (omega arith)
  compared a b Greater s e h f = cc

  at_least : (x : X) (xs : List X) → is_sorted R (map key (x ∷ xs)) ≡ true → (i : ℕ) (d : X) → i < length (x ∷ xs) → place x ≤ place (get_or (x ∷ xs) i d)
  at_least x xs h zero d lt = omega arith
  at_least x [] h (suc i) d lt = absurd (omega arith)
  at_least x (y ∷ ys) h (suc i) d lt =
      let parts = and_parts _ _ h in
      let one : place x ≤ place y = compared (key x) (key y) _ _ refl (not-true _ parts.0) refl in
      let more : place y ≤ place (get_or (y ∷ ys) i d) = at_least y ys parts.1 i d (omega arith) in
      omega (arith, one, more)

  rising : (xs : List X) → is_sorted R (map key xs) ≡ true → IsNonDecreasingBy place xs
  rising [] h i j d le lt = absurd (omega arith)
  rising (x ∷ xs) h zero j d le lt = at_least x xs h j d lt
  rising (x ∷ xs) h (suc i) zero d le lt = absurd (omega arith)
  rising (x ∷ xs) h (suc i) (suc j) d le lt = rising xs (and_parts _ _ h).1 i j d (omega arith) (omega arith)

  before-zero : (o : Ordering) → is_lt o ≡ true → ordering_index o ≡ 0
  before-zero Less h = refl
  before-zero Equal h = cc
  before-zero Greater h = cc

  zero-before : (o : Ordering) → ordering_index o ≤ 0 → is_lt o ≡ true
  zero-before Less h = refl
  zero-before Equal h = absurd (omega arith)
  zero-before Greater h = absurd (omega arith)

  pub partitioned : (xs : List X) → is_sorted R (map key xs) ≡ true → IsPartitionedBy (λ x. is_lt (R (key x) word)) xs
  partitioned xs h i j d le lt before =
      let far = before-zero _ before in
      let near = rising xs h i j d le lt in
      zero-before _ (omega (arith, near, far))

  past : (o : Ordering) → is_lt o ≡ false → is_eq o ≡ false → 2 ≤ ordering_index o
  past Less g h = cc
  past Equal g h = cc
  past Greater g h = omega arith

  past-differs : (o : Ordering) → 2 ≤ ordering_index o → is_eq o ≡ false
  past-differs Less h = absurd (omega arith)
  past-differs Equal h = absurd (omega arith)
  past-differs Greater h = refl

  before-differs : (o : Ordering) → is_lt o ≡ true → is_eq o ≡ false
  before-differs Less h = refl
  before-differs Equal h = cc
  before-differs Greater h = refl

  module _ (same : K → Bool) (decides : (k : K) → same k ≡ is_eq (R k word)) (rows : List X) (i : ℕ) (split : IsBoundary (λ row. R (key row) word) rows i) (d : X) where
    skipped : (k : ℕ) → k < i → same (get_or (map key rows) k (key d)) ≡ false
    skipped k lt =
        let within = split.within in
        let inside : k < length rows = omega arith in
        rw (get_or-map key rows k d (key d) inside, decides) (before-differs _ (split.before k d (omega arith) lt))

    pub found : i < length rows → same (key (get_or rows i d)) ≡ true → Some i ≡ position same (map key rows)
    found inside here =
        let place : position_or_len same (map key rows) ≡ i =
        position_or_len_is same (map key rows) i (key d) (simp length-map (omega arith)) skipped (λ lt. rw (get_or-map key rows i d (key d) inside) here) in
        let test : nat_lt i (length (map key rows)) ≡ true = simp length-map (grind (arith, nat_tests)) in
        rw (place, test) refl

    module _ (sorted : is_sorted R (map key rows) ≡ true) (here : i < length rows → same (key (get_or rows i d)) ≡ false) where
      later : (k : ℕ) → i ≤ k → k < length rows → same (get_or (map key rows) k (key d)) ≡ false
      later k le lt =
          let inside : i < length rows = omega arith in
          let first = past _ (split.behind i d (omega arith) inside) (sym (decides _) ∙ here inside) in
          let far = rising rows sorted i k d le lt in
          rw (get_or-map key rows k d (key d) lt, decides) (past-differs _ (omega (arith, first, far)))

      differs : (k : ℕ) → k < length (map key rows) → same (get_or (map key rows) k (key d)) ≡ false
      differs k lt = elim (cases_lt k i) [ inl before ↦ skipped k before | inr behind ↦ later k behind (simp length-map at lt) ]

      pub absent : None ≡ position same (map key rows)
      absent =
          let place : position_or_len same (map key rows) ≡ length (map key rows) =
          position_or_len_is same (map key rows) _ (key d) (omega arith) differs (λ lt. absurd (omega arith)) in
          rw place (grind (arith, nat_tests))
