-- The list of candidates is the set of them, and the choice is by the set of the best.
use Rattle.std.proofs.Common.{◌≡◌, ℕ, zero, suc, ◌<◌, List, [], ◌∷◌, ◌++◌, length, refl, subst, arith}
use Rattle.std.specs.Prelude.{true, false, filter, if◌then◌else◌}
use Rattle.std.specs.List.{flat_map}
use Rattle.std.proofs.lemmas.Bool.Decides.{nat_tests}
use Rattle.je_base.specs.declared.span.NameId.{NameId}
use Rattle.je_core.specs.declared.types.ClassId.{ClassId}
use Rattle.je_core.specs.Core.{CoreProgram}
use Rattle.je_classes.specs.Hierarchy.{supers_of, object_class, IsAcyclic}
use Rattle.je_classes.specs.Members.{Member, Found, one, several, IsFound, is_nothing, is_one, are_several, found_in, In, first, further}
use Rattle.je_classes.specs.Methods.{params_of, declared, is_top_interface, is_inherited, passes_on, HasMethod, own_method, from_above, from_object, accepts, all_pass, IsCandidate, IsBest, is_concrete, has_result_of, Counts, stands_before, IsChosen, none_fits, none_best, the_concrete, more_concrete, the_first, none_counts, implicit, methods_within, methods_named, is_best, counts, earlier, first_of, first_unless, chosen_of, find_method, MethodsAreFound}
use Rattle.je_classes.proofs.Lists.{bool_cases}
use Rattle.je_classes.proofs.Sets.{in-filter, filter-in, in-left, in-right, in-either, flat-above, above-flat, by_either, found-in, all-in, in-all}

-- ---- the list is the set

implicit-in : (p : CoreProgram) (x : NameId) (c : ClassId) (m : Member) → is_top_interface p c ≡ true → In (declared p x object_class) m → In (implicit p x c) m
implicit-in p x c m e q = rw e q

record Implicit (p : CoreProgram) (x : NameId) (c : ClassId) (m : Member) : Type 0 where
  top : is_top_interface p c ≡ true
  there : In (declared p x object_class) m

in-implicit : (p : CoreProgram) (x : NameId) (c : ClassId) (m : Member) → In (implicit p x c) m → Implicit p x c m
in-implicit p x c m q = bool_cases (λ b. In (if b then declared p x object_class else []) m → is_top_interface p c ≡ b → Implicit p x c m) (is_top_interface p c)
    (λ e r f. record { top = f; there = r })
    (λ e r f. elim r [ ]) q refl

listed : (p : CoreProgram) (n : ℕ) (x : NameId) (c : ClassId) (m : Member) → In (methods_within p n x c) m → HasMethod p x c m
listed p zero x c m q = elim q [ ]
listed p (suc n) x c m q = by_either (λ r. own_method r)
    (λ r. let k = filter-in (is_inherited p x (declared p x c)) (flat_map (λ d. filter (passes_on p c d) (methods_within p n x d)) (supers_of p c) ++ implicit p x c) m r in
    by_either
    (λ s. let a = flat-above (λ d. filter (passes_on p c d) (methods_within p n x d)) (supers_of p c) m s in let r = filter-in (passes_on p c a.class) (methods_within p n x a.class) m a.has in from_above a.there (listed p n x a.class m r.there) r.passes k.passes)
    (λ s. let i = in-implicit p x c m s in from_object i.top i.there k.passes)
    (in-either (flat_map (λ d. filter (passes_on p c d) (methods_within p n x d)) (supers_of p c)) k.there))
    (in-either (declared p x c) q)

lists : (p : CoreProgram) (a : IsAcyclic p) (n : ℕ) (x : NameId) {c : ClassId} {m : Member} → HasMethod p x c m → a.depth c < n → In (methods_within p n x c) m
lists p a zero x q h = absurd (omega arith)
lists p a (suc n) x (own_method q) h = in-left _ q
lists p a (suc n) x {c = c} {m = m} (from_above {d = d} q r t e) h = in-right (declared p x c) (in-filter (is_inherited p x (declared p x c))
    (in-left (implicit p x c) (above-flat (λ d. filter (passes_on p c d) (methods_within p n x d)) (supers_of p c) m d q (in-filter (passes_on p c d) (lists p a n x r (let f : a.depth d < a.depth c = a.falls c d q in omega arith)) t))) e)
lists p a (suc n) x {c = c} {m = m} (from_object t q e) h = in-right (declared p x c) (in-filter (is_inherited p x (declared p x c))
    (in-right (flat_map (λ d. filter (passes_on p c d) (methods_within p n x d)) (supers_of p c)) (implicit-in p x c m t q)) e)

-- ---- the first of a list

pub before-itself : (m : Member) → stands_before m m ≡ false
before-itself m = grind (arith, nat_tests)

before-through : (m n k : Member) → stands_before n m ≡ true → stands_before k m ≡ false → stands_before k n ≡ false
before-through m n k e f = grind (arith, nat_tests)

before-back : (m n k : Member) → stands_before n m ≡ false → stands_before k n ≡ false → stands_before k m ≡ false
before-back m n k e f = grind (arith, nat_tests)

before-against : (m n : Member) → stands_before n m ≡ true → stands_before m n ≡ false
before-against m n e = grind (arith, nat_tests)

pub data IsFirst (xs : List Member) : Found → Type 0 where
  no_first : xs ≡ [] → IsFirst xs several
  is_first : {m : Member} → In xs m → ((n : Member) → In xs n → stands_before n m ≡ false) → IsFirst xs (one m)

only-first : (m : Member) (ms : List Member) → ms ≡ [] → (n : Member) → In (m ∷ ms) n → stands_before n m ≡ false
only-first m ms e n first = before-itself m
only-first m ms e n (further q) = absurd (elim (subst (λ (xs : List Member). In xs n) e q) [ ])

behind-first : (m n : Member) (ms : List Member) → stands_before m n ≡ false → ((k : Member) → In ms k → stands_before k n ≡ false) → (k : Member) → In (m ∷ ms) k → stands_before k n ≡ false
behind-first m n ms e h k first = e
behind-first m n ms e h k (further q) = h k q

earlier-first : (m : Member) (ms : List Member) (f : Found) → IsFirst ms f → IsFirst (m ∷ ms) (earlier m f)
earlier-first m ms _ (no_first e) = is_first first (only-first m ms e)
earlier-first m ms _ (is_first {m = n} q h) = bool_cases (λ b. stands_before n m ≡ b → IsFirst (m ∷ ms) (if b then one n else one m)) (stands_before n m)
    (λ _ e. is_first (further q) (behind-first m n ms (before-against m n e) h))
    (λ _ e. is_first first (behind-first m m ms (before-itself m) (λ k r. before-back m n k e (h k r)))) refl

first-of : (ms : List Member) → IsFirst ms (first_of ms)
first-of [] = no_first refl
first-of (m ∷ ms) = earlier-first m ms (first_of ms) (first-of ms)

-- ---- the choice, for sets that lists have

module _ (p : CoreProgram) (P : Member → Type 0) (b : Member) (bs : List Member)
    (bt : (m : Member) → In (b ∷ bs) m → IsBest p P m) (bo : (m : Member) → IsBest p P m → In (b ∷ bs) m) where
  counts-to : (m : Member) → In (filter (counts p (b ∷ bs)) (b ∷ bs)) m → Counts p (IsBest p P) m
  counts-to m q = let r = filter-in (counts p (b ∷ bs)) (b ∷ bs) m q in
      record { best = bt m r.there; result = λ n c. all-in (has_result_of p m) (b ∷ bs) r.passes n (bo n c) }

  counts-of : (m : Member) → Counts p (IsBest p P) m → In (filter (counts p (b ∷ bs)) (b ∷ bs)) m
  counts-of m c = in-filter (counts p (b ∷ bs)) (bo m c.best) (in-all (has_result_of p m) (b ∷ bs) (λ n q. c.result n (bt n q)))

  all-abstract : ((m : Member) → ¬ In (filter (is_concrete p) (b ∷ bs)) m) → (n : Member) → IsBest p P n → is_concrete p n ≡ false
  all-abstract none n c = bool_cases (λ k. is_concrete p n ≡ k → k ≡ false) (is_concrete p n)
      (λ _ e. absurd (none n (in-filter (is_concrete p) (bo n c) e)))
      (λ _ e. refl) refl

  first-chosen : ((n : Member) → IsBest p P n → is_concrete p n ≡ false) → (f : Found) → IsFirst (filter (counts p (b ∷ bs)) (b ∷ bs)) f → IsChosen p P (IsBest p P) f
  first-chosen abstract _ (no_first e) = none_counts (bt b first) abstract (λ n c. elim (subst (λ (xs : List Member). In xs n) e (counts-of n c)) [ ])
  first-chosen abstract _ (is_first {m = m} q h) = the_first abstract (counts-to m q) (λ n c. h n (counts-of n c))

  best-chosen : (f : Found) → IsFound (In (filter (is_concrete p) (b ∷ bs))) f → IsChosen p P (IsBest p P) (first_unless p (b ∷ bs) f)
  best-chosen _ (is_nothing n) = first-chosen (all-abstract n) _ (first-of (filter (counts p (b ∷ bs)) (b ∷ bs)))
  best-chosen _ (is_one {m = m} q u) = let r = filter-in (is_concrete p) (b ∷ bs) m q in
      the_concrete (bt m r.there) r.passes (λ n c e. u n (in-filter (is_concrete p) (bo n c) e))
  best-chosen _ (are_several {m = m} {n = n} q k d) = let r = filter-in (is_concrete p) (b ∷ bs) m q in let s = filter-in (is_concrete p) (b ∷ bs) n k in
      more_concrete (bt m r.there) r.passes (bt n s.there) s.passes d

pub choice : (p : CoreProgram) (P : Member → Type 0) (cs best : List Member) → ((m : Member) → In cs m → P m) → ((m : Member) → P m → In cs m) →
    ((m : Member) → In best m → IsBest p P m) → ((m : Member) → IsBest p P m → In best m) → IsChosen p P (IsBest p P) (chosen_of p cs best)
choice p P [] best to of bt bo = none_fits (λ m q. elim (of m q) [ ])
choice p P (c ∷ cs) [] to of bt bo = none_best (to c first) (λ n b. elim (bo n b) [ ])
choice p P (c ∷ cs) (b ∷ bs) to of bt bo = best-chosen p P b bs bt bo (found_in (filter (is_concrete p) (b ∷ bs))) (found-in (filter (is_concrete p) (b ∷ bs)))

pub methods_found : MethodsAreFound
unfolding find_method methods_named
methods_found p c x types a =
    let all = methods_within p (length p.classes) x c in
    let cs = filter (accepts p types) all in
    let to : (m : Member) → In cs m → IsCandidate p c x types m = λ m q. let r = filter-in (accepts p types) all m q in (listed p (length p.classes) x c m r.there, r.passes) in
    let of = λ (m : Member) (q : IsCandidate p c x types m). in-filter (accepts p types) (lists p a (length p.classes) x q.0 (a.within c)) q.1 in
    choice p (IsCandidate p c x types) cs (filter (is_best p cs) cs) to of
    (λ m q. let r = filter-in (is_best p cs) cs m q in record { candidate = to m r.there; specific = λ n s. all-in (λ k. all_pass p (params_of p m) (params_of p k)) cs r.passes n (of n s) })
    (λ m b. in-filter (is_best p cs) (of m b.candidate) (in-all (λ k. all_pass p (params_of p m) (params_of p k)) cs (λ n q. b.specific n (to n q))))
