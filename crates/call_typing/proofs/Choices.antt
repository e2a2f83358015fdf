-- What a choice is, by the set of its candidates.
use Rattle.std.proofs.Common.{◌≡◌, ℕ, List, [], ◌∷◌, refl, sym, ap, ◌∙◌, subst, inl, inr}
use Rattle.std.specs.Prelude.{Bool, true, false, ◌&&◌, ◌⊎◌, Option, Some, None, cond, filter}
use Rattle.std.specs.List.{find, list_all}
use Rattle.je_classes.specs.Members.{In, first, further}
use Rattle.je_classes.proofs.Lists.{bool_cases}
use Rattle.je_classes.proofs.Sets.{filter-in, in-filter}
use Rattle.je_scopes.specs.Sites.{Site}
use Rattle.je_scopes.specs.SourceTypes.{SourceType}
use Rattle.source_types.specs.Heads.{ClassHead}
use Rattle.call_typing.specs.Overloads.{Candidate, accepts, choice, choice_among, choice_for, has_body, has_least_result, is_accessible, is_first, is_more_specific, is_most_specific, most_specific, or_unclear, preferred, preferred_by}
use Rattle.call_typing.specs.Laws.{Accepting, Applicable, IsBest, IsChoice, none_accept, none_named, not_one, the_one}

-- ---- lists

module _ {A : Type 0} where
  all-of : (test : A → Bool) (xs : List A) (x : A) → list_all test xs ≡ true → In xs x → test x ≡ true
  all-of test [] x e q = elim q [ ]
  all-of test (y ∷ xs) x e first = bool_cases (λ b. (b && list_all test xs) ≡ true → b ≡ true) (test y) (λ t k. refl) (λ t k. k) e
  all-of test (y ∷ xs) x e (further q) = all-of test xs x (bool_cases (λ b. (b && list_all test xs) ≡ true → list_all test xs ≡ true) (test y) (λ t k. k) (λ t k. absurd cc) e) q

  of-all : (test : A → Bool) (xs : List A) → ((x : A) → In xs x → test x ≡ true) → list_all test xs ≡ true
  of-all test [] h = refl
  of-all test (x ∷ xs) h = rw (h x first) (of-all test xs (λ y q. h y (further q)))

  found-in : (test : A → Bool) (xs : List A) (x : A) → find test xs ≡ Some x → In xs x
  found-in test [] x e = absurd cc
  found-in test (y ∷ xs) x e =
      bool_cases (λ b. cond b (Some y) (find test xs) ≡ Some x → In (y ∷ xs) x) (test y)
      (λ t k. let same : y ≡ x = cc in subst (λ (z : A). In (y ∷ xs) z) same first) (λ t k. further (found-in test xs x k)) e

-- ---- the best of a set

module _ (heads : List ClassHead) where
  best-of : (ms : List Candidate) (m : Candidate) → In (most_specific heads ms) m → IsBest heads (In ms) m
  best-of ms m q =
      let p = filter-in (is_most_specific heads ms) ms m q in
      record { member = p.there; specific = λ n r. all-of (is_more_specific heads m) ms n p.passes r }

  of-best : (ms : List Candidate) (m : Candidate) → IsBest heads (In ms) m → In (most_specific heads ms) m
  of-best ms m b = in-filter (is_most_specific heads ms) b.member (of-all (is_more_specific heads m) ms (λ n q. b.specific n q))

  -- ---- the preferred one of some

  record Preferred (bs : List Candidate) (m : Candidate) : Type 0 where
    pub there : In bs m
    pub body : (has_body m ≡ true) ⊎ ((n : Candidate) → In bs n → has_body n ≡ false)

  none-left : (bs : List Candidate) → filter has_body bs ≡ [] → (n : Candidate) → In bs n → has_body n ≡ false
  none-left bs e n q = bool_cases (λ b. has_body n ≡ b → has_body n ≡ false) (has_body n)
      (λ t k. absurd (elim (subst (λ (xs : List Candidate). In xs n) e (in-filter has_body q t)) [ ])) (λ t k. k) refl

  preferred-in : (bs cs : List Candidate) (m : Candidate) → filter has_body bs ≡ cs → preferred_by heads bs cs ≡ Some m → Preferred bs m
  preferred-in bs [] m e f = record {
    there = (filter-in (has_least_result heads bs) bs m (found-in (is_first (filter (has_least_result heads bs) bs)) (filter (has_least_result heads bs) bs) m f)).there;
    body = inr (none-left bs e);
  }
  preferred-in bs (c ∷ []) m e f =
      let same : c ≡ m = cc in
      let p = filter-in has_body bs c (subst (λ (xs : List Candidate). In xs c) (sym e) first) in
      record { there = subst (λ (k : Candidate). In bs k) same p.there; body = inl (ap has_body (sym same) ∙ p.passes) }
  preferred-in bs (c ∷ d ∷ cs) m e f = absurd cc

  -- ---- the choice

  module _ (A P : Candidate → Type 0) where
    best-by : (ms : List Candidate) (m : Candidate) → ((n : Candidate) → In ms n → P n) → ((n : Candidate) → P n → In ms n) → IsBest heads (In ms) m → IsBest heads P m
    best-by ms m there back b = record { member = there m b.member; specific = λ n q. b.specific n (back n q) }

    best-back : (ms : List Candidate) (m : Candidate) → ((n : Candidate) → In ms n → P n) → ((n : Candidate) → P n → In ms n) → IsBest heads P m → IsBest heads (In ms) m
    best-back ms m there back b = record { member = back m b.member; specific = λ n q. b.specific n (there n q) }

    chosen-by : (ms : List Candidate) (k : Candidate) → ((n : Candidate) → In ms n → P n) → ((n : Candidate) → P n → In ms n) → P k → (o : Option Candidate) →
        preferred heads (most_specific heads ms) ≡ o → IsChoice heads A P (or_unclear o)
    chosen-by ms k there back h None e = not_one h
    chosen-by ms k there back h (Some m) e =
        let p = preferred-in (most_specific heads ms) (filter has_body (most_specific heads ms)) m refl e in
        the_one (best-by ms m there back (best-of ms m p.there)) (elim p.body [
          | inl b ↦ inl b
          | inr none ↦ inr (λ n b. none n (of-best ms n (best-back ms n there back b)))
        ])

    among-by : (ms : List Candidate) → ((n : Candidate) → In ms n → P n) → ((n : Candidate) → P n → In ms n) → (k : Candidate) → A k → IsChoice heads A P (choice_among heads ms)
    among-by [] there back k h = none_named h (λ n q. elim (back n q) [ ])
    among-by (m ∷ ms) there back k h = chosen-by (m ∷ ms) m there back (there m first) (preferred heads (most_specific heads (m ∷ ms))) refl

  -- of those that accept the arguments
  module _ (sites : List Site) (c : ℕ) (all : List Candidate) (types : List SourceType) where
    for-by : (ms : List Candidate) → ((n : Candidate) → In ms n → Accepting heads all types n) → ((n : Candidate) → Accepting heads all types n → In ms n) →
        IsChoice heads (Accepting heads all types) (Applicable heads sites c all types) (choice_for heads sites c ms)
    for-by [] there back = none_accept (λ m q. elim (back m q) [ ])
    for-by (m ∷ ms) there back = among-by (Accepting heads all types) (Applicable heads sites c all types) (filter (is_accessible sites c) (m ∷ ms))
        (λ n q. let p = filter-in (is_accessible sites c) (m ∷ ms) n q in (there n p.there, p.passes))
        (λ n q. in-filter (is_accessible sites c) (back n q.0) q.1)
        m (there m first)

    pub choice-right : IsChoice heads (Accepting heads all types) (Applicable heads sites c all types) (choice heads sites c all types)
    unfolding choice
    choice-right = for-by (filter (accepts heads types) all)
        (λ n q. let p = filter-in (accepts heads types) all n q in (p.there, p.passes))
        (λ n q. in-filter (accepts heads types) q.0 q.1)
