-- The walk comes by exactly the classes to which ways lead.
use Rattle.std.proofs.Common.{◌≡◌, ℕ, zero, suc, ◌<◌, ◌≤◌, ◌+◌, ◌-◌, List, [], ◌∷◌, length, Option, Some, None, refl, sym, ap, ◌∙◌, subst, arith}
use Rattle.std.specs.Prelude.{true, false, slice_get, nat_lt}
use Rattle.std.specs.List.{Contains, IsDistinct}
use Rattle.std.proofs.lemmas.Bool.Decides.{nat_tests}
use Rattle.std.proofs.lemmas.Option.{same_Some}
use Rattle.je_core.specs.declared.types.ClassId.{ClassId}
use Rattle.je_classes.specs.way.Reaching.{with_reached, with_all}
use Rattle.je_classes.proofs.Lists.{bool_cases}
use Rattle.je_classes.proofs.Reaching.{Has, Once, placed, reached-new, reached-only, reached-once, all-has, all-new, all-only, all-get, all-once, within-length, has-contained, contained, past, get-first, within-get, has-got}
use Rattle.class_lookup.specs.way.Walk.{reached_at, reached_from, reached_by}

module _ (next : ClassId → List ClassId) where
  -- a way from one class to another one
  pub data Leads : ClassId → ClassId → Type 0 where
    stays : {c : ClassId} → Leads c c
    goes : {c d e : ClassId} → Contains (next c) e → Leads e d → Leads c d

  pub further : {c d e : ClassId} → Leads c d → Contains (next d) e → Leads c e
  further stays q = goes q stays
  further (goes q r) s = goes q (further r s)

  module _ (n : ℕ) (own : ClassId) where
    -- ---- what is come by is led to

    sound-at : (left at : ℕ) (xs : List ClassId) → ((e : ClassId) → Has xs e → Leads own e) → (d : ClassId) → Has (reached_from next n left at xs) d → Leads own d
    unfolding reached_from
    sound-at zero at xs f d h = f d h
    sound-at (suc left) at xs f d h = by (slice_get xs at) refl h (sound-at left (suc at))
      where
        by : (o : Option ClassId) → slice_get xs at ≡ o → Has (reached_at (reached_from next n left (suc at)) next n xs o) d →
            ((ys : List ClassId) → ((e : ClassId) → Has ys e → Leads own e) → (k : ClassId) → Has (reached_from next n left (suc at) ys) k → Leads own k) → Leads own d
        by None e k more = f d k
        by (Some c) e k more = more (with_all n xs (next c)) (all-only n xs (next c) (Leads own) f (λ x q _. further (f c (has-got xs at c e)) (contained (next c) x q))) d k

    pub sound : (d : ClassId) → Has (reached_by next n own) d → Leads own d
    sound d h = sound-at n 0 (with_reached n [] own) (reached-only n [] own (Leads own) (λ x k. absurd cc) (λ _. stays)) d h

    within-at : (left at : ℕ) (xs : List ClassId) → ((e : ClassId) → Has xs e → nat_lt e.0 n ≡ true) → (k : ClassId) → Has (reached_from next n left at xs) k → nat_lt k.0 n ≡ true
    unfolding reached_from
    within-at zero at xs f k q = f k q
    within-at (suc left) at xs f k q = by (slice_get xs at) q (λ ys g. within-at left (suc at) ys g k)
      where
        by : (o : Option ClassId) → Has (reached_at (reached_from next n left (suc at)) next n xs o) k → ((ys : List ClassId) → ((e : ClassId) → Has ys e → nat_lt e.0 n ≡ true) → Has (reached_from next n left (suc at) ys) k → nat_lt k.0 n ≡ true) → nat_lt k.0 n ≡ true
        by None r more = f k r
        by (Some c) r more = more (with_all n xs (next c)) (all-only n xs (next c) (λ e. nat_lt e.0 n ≡ true) f (λ x _ l. l)) r

    pub there : (d : ClassId) → Has (reached_by next n own) d → nat_lt d.0 n ≡ true
    there d h = within-at n 0 (with_reached n [] own) (reached-only n [] own (λ e. nat_lt e.0 n ≡ true) (λ x k. absurd cc) (λ l. l)) d h

    -- ---- what is led to is come by

    abbrev Closed : List ClassId → ClassId → Type 0
    Closed xs c = (e : ClassId) → Contains (next c) e → nat_lt e.0 n ≡ true → Has xs e

    record Walked (at : ℕ) (xs : List ClassId) : Type 0 where
      once : Once xs
      within : (e : ClassId) → Has xs e → nat_lt e.0 n ≡ true
      first : nat_lt own.0 n ≡ true → Has xs own
      closed : (i : ℕ) (c : ClassId) → i < at → slice_get xs i ≡ Some c → Closed xs c

    -- all that are come by are walked
    record Whole (xs : List ClassId) : Type 0 where
      first : nat_lt own.0 n ≡ true → Has xs own
      closed : (c : ClassId) → Has xs c → Closed xs c

    over : (at : ℕ) (xs : List ClassId) → Walked at xs → length xs ≤ at → Whole xs
    over at xs w l = record { first = w.first; closed = λ c h. let place = placed xs c h in w.closed place.place c (omega (arith, place.below, l)) place.is }

    walk : (at : ℕ) (xs : List ClassId) (c : ClassId) → Walked at xs → slice_get xs at ≡ Some c → Walked (suc at) (with_all n xs (next c))
    walk at xs c w g = record {
      once = all-once n xs (next c) w.once;
      within = all-only n xs (next c) (λ e. nat_lt e.0 n ≡ true) w.within (λ x _ l. l);
      first = λ l. all-has n xs (next c) own (w.first l);
      closed = by;
    }
      where
        here : (k : ClassId) → c ≡ k → Closed (with_all n xs (next c)) k
        here k s = subst (Closed (with_all n xs (next c))) s (λ e q l. all-new n xs (next c) e (has-contained (next c) e q) l)

        by : (i : ℕ) (k : ClassId) → i < suc at → slice_get (with_all n xs (next c)) i ≡ Some k → Closed (with_all n xs (next c)) k
        by i k l e = bool_cases (λ b. nat_lt i at ≡ b → Closed (with_all n xs (next c)) k) (nat_lt i at)
            (λ _ t. let lt : i < at = grind (arith, nat_tests) in
            let old = w.closed i k lt (get-first xs i k (let z = within-get xs at c g in omega (arith, lt, z)) (with_all n xs (next c)) (all-get n xs (next c)) e) in
            λ x q m. all-has n xs (next c) x (old x q m))
            (λ _ f. let is : i ≡ at = grind (arith, nat_tests) in
            here k (same_Some c k (sym (all-get n xs (next c) at c g) ∙ ap (slice_get (with_all n xs (next c))) (sym is) ∙ e))) refl

    whole-at : (left at : ℕ) (xs : List ClassId) → n ≤ left + at → Walked at xs → Whole (reached_from next n left at xs)
    unfolding reached_from
    whole-at zero at xs l w = let k = within-length n xs w.once w.within in over at xs w (omega (arith, k, l))
    whole-at (suc left) at xs l w = by (slice_get xs at) refl (λ ys v. whole-at left (suc at) ys (omega (arith, l)) v)
      where
        by : (o : Option ClassId) → slice_get xs at ≡ o → ((ys : List ClassId) → Walked (suc at) ys → Whole (reached_from next n left (suc at) ys)) → Whole (reached_at (reached_from next n left (suc at)) next n xs o)
        by None e more = over at xs w (past xs at e)
        by (Some c) e more = more (with_all n xs (next c)) (walk at xs c w e)

    begun : Walked 0 (with_reached n [] own)
    unfolding IsDistinct
    begun = record {
      once = reached-once n [] own tt;
      within = reached-only n [] own (λ e. nat_lt e.0 n ≡ true) (λ x k. absurd cc) (λ l. l);
      first = reached-new n [] own;
      closed = λ i c l e. absurd (omega (arith, l));
    }

    pub complete : ((c e : ClassId) → Contains (next c) e → nat_lt c.0 n ≡ true) → (d : ClassId) → Leads own d → nat_lt d.0 n ≡ true → Has (reached_by next n own) d
    complete inside d q l = to own q w.first
      where
        w : Whole (reached_by next n own)
        w = whole-at n 0 (with_reached n [] own) (omega arith) begun

        to : (c : ClassId) → Leads c d → (nat_lt c.0 n ≡ true → Has (reached_by next n own) c) → Has (reached_by next n own) d
        to c stays h = h l
        to c (goes {e = e} r s) h = to e s (w.closed c (h (inside c e r)) e r)

-- ---- the loop of the walk

module _ (next : ClassId → List ClassId) (n : ℕ) where
  pub at_end : (left at : ℕ) (xs : List ClassId) → slice_get xs at ≡ None → reached_from next n left at xs ≡ xs
  unfolding reached_from
  at_end zero at xs e = refl
  at_end (suc left) at xs e = ap (reached_at (reached_from next n left (suc at)) next n xs) e

  pub none_left : (at : ℕ) (xs : List ClassId) → reached_from next n 0 at xs ≡ xs
  unfolding reached_from
  none_left at xs = refl

  pub one_step : (left at : ℕ) (xs : List ClassId) (c : ClassId) → 0 < left → slice_get xs at ≡ Some c → reached_from next n left at xs ≡ reached_from next n (left - 1) (at + 1) (with_all n xs (next c))
  unfolding reached_from
  one_step zero at xs c l e = absurd (omega arith)
  one_step (suc left) at xs c l e = let s : left ≡ suc left - 1 = omega arith in let t : suc at ≡ at + 1 = omega arith in
      ap (reached_at (reached_from next n left (suc at)) next n xs) e ∙ (λ i. reached_from next n (s i) (t i) (with_all n xs (next c)))
