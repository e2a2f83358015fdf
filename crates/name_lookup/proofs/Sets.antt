-- Sets of classes, as lists of their numbers.
use Rattle.std.proofs.Common.{◌≡◌, ℕ, zero, suc, ◌+◌, ◌<◌, ◌≤◌, List, [], ◌∷◌, ◌++◌, length, take, drop, get_or, refl, sym, ◌∙◌, ap, subst, arith, add-one, drop-cons}
use Rattle.std.specs.Prelude.{Bool, true, false, ◌&&◌, nat_eq, map, cond}
use Rattle.std.specs.List.{list_any, list_all, Contains, IsDistinct, AllByRecursion}
use Rattle.std.proofs.lemmas.List.{map-append, take_more}
use Rattle.std.proofs.Math.ListN.{drop_of_length-le}
use Rattle.std.proofs.lemmas.Bool.Decides.{nat_tests}
use Rattle.indexmap.specs.IndexSet.{insert_key}
use Rattle.je_core.specs.declared.types.ClassId.{ClassId}
use Rattle.je_classes.proofs.Lists.{bool_cases, contains-here, contains-later, contains-cases, contains-any}
use Rattle.je_scopes.proofs.Either.{by_either, nothing-in}
use Rattle.scope_laws.proofs.Gains.{Gains, gains-none, gains-old, gains-last, gains-then}
use Rattle.name_sites.specs.Number.{number_of}
use Rattle.name_lookup.specs.View.{numbers}

pub number-in : (cs : List ClassId) (c : ClassId) → Contains cs c → Contains (numbers cs) c.0
number-in [] c q = absurd (nothing-in c q)
number-in (d ∷ cs) c q = by_either (λ e. subst (λ (k : ClassId). Contains (numbers (d ∷ cs)) k.0) e (contains-here d.0 (numbers cs)))
    (λ r. contains-later d.0 c.0 (numbers cs) (number-in cs c r)) (contains-cases d c cs q)

module _ (eq : ClassId → ClassId → Bool) (same : (a b : ClassId) → eq a b ≡ nat_eq a.0 b.0) where
  there : (ks : List ClassId) (c : ClassId) → list_any (eq c) ks ≡ true → Contains (numbers ks) c.0
  there ks c e = let r = contains-any (eq c) ks e in
      let t : nat_eq c.0 r.element.0 ≡ true = sym (same c r.element) ∙ r.passes in
      let s : r.element.0 ≡ c.0 = grind (arith, nat_tests) in
      subst (Contains (numbers ks)) s (number-in ks r.element r.there)

  pub gains-insert : (ks : List ClassId) (c : ClassId) → Gains (numbers ks) (numbers (insert_key eq ks c)) (c.0 ∷ [])
  gains-insert ks c = bool_cases (λ b. Gains (numbers ks) (numbers (cond b ks (ks ++ c ∷ []))) (c.0 ∷ [])) (list_any (eq c) ks)
      (λ e. gains-old (numbers ks) c.0 (there ks c e))
      (λ e. subst (λ (l : List ℕ). Gains (numbers ks) l (c.0 ∷ [])) (sym (map-append number_of ks (c ∷ []))) (gains-last (numbers ks) c.0))

  -- one more of those that are to be inserted
  pub gains-next : (start ks new cs : List ClassId) (i : ℕ) (d : ClassId) → i < length cs → new ≡ insert_key eq ks (get_or cs i d) → Gains (numbers start) (numbers ks) (numbers (take i cs)) →
      Gains (numbers start) (numbers new) (numbers (take (i + 1) cs))
  gains-next start ks new cs i d l e g =
      let c = get_or cs i d in
      subst (λ (k : List ClassId). Gains (numbers start) (numbers k) (numbers (take (i + 1) cs))) (sym e)
      (subst (λ (l : List ClassId). Gains (numbers start) (numbers (insert_key eq ks c)) (numbers l)) (sym (take_more cs i d l))
      (subst (λ (l : List ℕ). Gains (numbers start) (numbers (insert_key eq ks c)) l) (sym (map-append number_of (take i cs) (c ∷ []))) (gains-then g (gains-insert ks c))))

  all-other : (c : ClassId) (ks : List ClassId) → AllByRecursion (λ k. eq c k ≡ false) ks → AllByRecursion (λ n. nat_eq c.0 n ≡ false) (numbers ks)
  all-other c [] q = tt
  all-other c (k ∷ ks) q = (sym (same c k) ∙ q.0, all-other c ks q.1)

  pub distinct-numbers : (ks : List ClassId) → IsDistinct eq ks → IsDistinct nat_eq (numbers ks)
  unfolding IsDistinct
  distinct-numbers [] d = tt
  distinct-numbers (k ∷ ks) d = (all-other k ks d.0, distinct-numbers ks d.1)

-- ---- a test of all that are left

module _ (test : ℕ → Bool) where
  all-step : (cs : List ClassId) (i : ℕ) (d : ClassId) → i < length cs → list_all test (numbers (drop i cs)) ≡ (test (get_or cs i d).0 && list_all test (numbers (drop (i + 1) cs)))
  all-step cs i d l = rw (add-one, drop-cons cs i d) refl

  pub all-passed : (cs : List ClassId) (i : ℕ) (d : ClassId) → i < length cs → test (get_or cs i d).0 ≡ true → list_all test (numbers (drop i cs)) ≡ list_all test (numbers cs) →
      list_all test (numbers (drop (i + 1) cs)) ≡ list_all test (numbers cs)
  all-passed cs i d l t e = sym (ap (λ b. b && list_all test (numbers (drop (i + 1) cs))) t) ∙ sym (all-step cs i d l) ∙ e

  pub one-fails : (cs : List ClassId) (i : ℕ) (d : ClassId) → i < length cs → test (get_or cs i d).0 ≡ false → list_all test (numbers (drop i cs)) ≡ list_all test (numbers cs) → false ≡ list_all test (numbers cs)
  one-fails cs i d l t e = sym (ap (λ b. b && list_all test (numbers (drop (i + 1) cs))) t) ∙ sym (all-step cs i d l) ∙ e

  pub all-passed-all : (cs : List ClassId) (i : ℕ) → length cs ≤ i → list_all test (numbers (drop i cs)) ≡ list_all test (numbers cs) → true ≡ list_all test (numbers cs)
  all-passed-all cs i l e = ap (λ (ds : List ClassId). list_all test (numbers ds)) (sym (drop_of_length-le cs l)) ∙ e

-- ---- sets that begin with none

pub begins-empty : (old new : List ClassId) {more : List ℕ} → old ≡ [] → Gains (numbers old) (numbers new) more → Gains [] (numbers new) more
begins-empty old new {more = more} e g = subst (λ (k : List ClassId). Gains (numbers k) (numbers new) more) e g

pub empty-distinct : (old : List ClassId) → old ≡ [] → IsDistinct nat_eq (numbers old)
unfolding IsDistinct
empty-distinct [] e = tt
empty-distinct (c ∷ cs) e = absurd (cc)
