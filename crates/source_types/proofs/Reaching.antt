-- What is come by from a type are the types above it.
use Rattle.std.proofs.Common.{◌≡◌, ℕ, zero, suc, ◌+◌, List, [], ◌∷◌, ◌++◌, length, take, drop, refl, sym, ap, ◌∙◌, subst, inl, inr, arith}
use Rattle.std.specs.Prelude.{Bool, true, false, ◌||◌, ◌⊎◌, if◌then◌else◌}
use Rattle.std.specs.List.{list_any, Contains}
use Rattle.std.proofs.lemmas.List.{take-append-drop, take_at, append_assoc, append-nil}
use Rattle.je_classes.proofs.Lists.{bool_cases, any-contains, contains-any, contains-here, contains-later, contains-cases}
use Rattle.je_scopes.specs.SourceTypes.{SourceType, same_source_type}
use Rattle.source_types.specs.Heads.{ClassHead}
use Rattle.source_types.specs.Supertypes.{directly_above, has_type, supertypes_within, most_steps, supertypes}
use Rattle.source_types.specs.way.Reaching.{with_type, with_types, gone_up, climbed, all_met}
use Rattle.source_types.proofs.Same.{same-refl, same-equal}
use Rattle.source_types.proofs.Above.{any-append, is_within, itself, step}

abbrev Has : List SourceType → SourceType → Type 0
Has xs t = has_type xs t ≡ true

-- ---- members of lists

has-contained : (xs : List SourceType) (t : SourceType) → Contains xs t → Has xs t
has-contained xs t q = any-contains (λ u. same_source_type u t) xs t q (same-refl t)

contained : (xs : List SourceType) (t : SourceType) → Has xs t → Contains xs t
contained xs t h = let p = contains-any (λ u. same_source_type u t) xs h in subst (Contains xs) (same-equal p.element t p.passes) p.there

or-cases : (a b : Bool) → (a || b) ≡ true → (a ≡ true) ⊎ (b ≡ true)
or-cases true b e = inl refl
or-cases false b e = inr e

or-right : (a b : Bool) → b ≡ true → (a || b) ≡ true
or-right true b e = refl
or-right false b e = e

or-left : (a b : Bool) → a ≡ true → (a || b) ≡ true
or-left true b e = refl
or-left false b e = absurd cc

has-left : (xs ys : List SourceType) (t : SourceType) → Has xs t → Has (xs ++ ys) t
has-left xs ys t h = any-append (λ u. same_source_type u t) xs ys ∙ or-left (has_type xs t) (has_type ys t) h

has-last : (xs : List SourceType) (t : SourceType) → Has (xs ++ t ∷ []) t
has-last xs t = any-append (λ u. same_source_type u t) xs (t ∷ []) ∙ or-right (has_type xs t) _ (rw (same-refl t) refl)

has-either : (xs ys : List SourceType) (t : SourceType) → Has (xs ++ ys) t → Has xs t ⊎ Has ys t
has-either xs ys t h = or-cases (has_type xs t) (has_type ys t) (sym (any-append (λ u. same_source_type u t) xs ys) ∙ h)

only-one : (t u : SourceType) → Has (u ∷ []) t → u ≡ t
only-one t u h = by (or-cases (same_source_type u t) false h) where
  by : (same_source_type u t ≡ true) ⊎ (false ≡ true) → u ≡ t
  by (inl e) = same-equal u t e
  by (inr e) = absurd cc

-- what is behind others
record Extends (xs ys : List SourceType) : Type 0 where
  more : List SourceType
  is : ys ≡ xs ++ more

extends-same : (xs : List SourceType) → Extends xs xs
extends-same xs = record { more = []; is = sym (append-nil xs) }

extends-on : {xs ys zs : List SourceType} → Extends xs ys → Extends ys zs → Extends xs zs
extends-on {xs = xs} e f = record { more = e.more ++ f.more; is = f.is ∙ ap (λ (ks : List SourceType). ks ++ f.more) e.is ∙ append_assoc xs e.more f.more }

extends-has : {xs ys : List SourceType} → Extends xs ys → (t : SourceType) → Has xs t → Has ys t
extends-has {xs = xs} e t h = subst (λ (ks : List SourceType). Has ks t) (sym e.is) (has-left xs e.more t h)

-- ---- one more

with-extends : (xs : List SourceType) (t : SourceType) → Extends xs (with_type xs t)
with-extends xs t = bool_cases (λ b. Extends xs (if b then xs else xs ++ t ∷ [])) (has_type xs t) (λ _. extends-same xs) (λ _. record { more = t ∷ []; is = refl })

with-new : (xs : List SourceType) (t : SourceType) → Has (with_type xs t) t
with-new xs t = bool_cases (λ b. has_type xs t ≡ b → Has (if b then xs else xs ++ t ∷ []) t) (has_type xs t) (λ _ h. h) (λ _ _. has-last xs t) refl

with-only : (xs : List SourceType) (t u : SourceType) → Has (with_type xs t) u → Has xs u ⊎ (t ≡ u)
with-only xs t u = bool_cases (λ b. Has (if b then xs else xs ++ t ∷ []) u → Has xs u ⊎ (t ≡ u)) (has_type xs t)
    (λ _ h. inl h)
    (λ _ h. by (has-either xs (t ∷ []) u h)) where
      by : Has xs u ⊎ Has (t ∷ []) u → Has xs u ⊎ (t ≡ u)
      by (inl k) = inl k
      by (inr k) = inr (only-one u t k)

all-extends : (xs ts : List SourceType) → Extends xs (with_types xs ts)
all-extends xs [] = extends-same xs
all-extends xs (t ∷ ts) = extends-on (with-extends xs t) (all-extends (with_type xs t) ts)

all-new : (xs ts : List SourceType) (t : SourceType) → Contains ts t → Has (with_types xs ts) t
all-new xs [] t q = absurd (let h = q.1 in omega arith)
all-new xs (u ∷ us) t q = by (contains-cases u t us q) (all-new (with_type xs u) us t) where
  by : (u ≡ t) ⊎ Contains us t → (Contains us t → Has (with_types (with_type xs u) us) t) → Has (with_types (with_type xs u) us) t
  by (inl e) more = extends-has (all-extends (with_type xs u) us) t (subst (λ (k : SourceType). Has (with_type xs u) k) e (with-new xs u))
  by (inr k) more = more k

all-only : (xs ts : List SourceType) (t : SourceType) → Has (with_types xs ts) t → Has xs t ⊎ Contains ts t
all-only xs [] t h = inl h
all-only xs (u ∷ us) t h = by (all-only (with_type xs u) us t h) where
  last : Has xs t ⊎ (u ≡ t) → Has xs t ⊎ Contains (u ∷ us) t
  last (inl k) = inl k
  last (inr e) = inr (subst (Contains (u ∷ us)) e (contains-here u us))

  by : Has (with_type xs u) t ⊎ Contains us t → Has xs t ⊎ Contains (u ∷ us) t
  by (inl k) = last (with-only xs u t k)
  by (inr q) = inr (contains-later u t us q)

module _ (heads : List ClassHead) where
  -- ---- those above each of some

  up-extends : (xs ts : List SourceType) → Extends xs (gone_up heads xs ts)
  up-extends xs [] = extends-same xs
  up-extends xs (t ∷ ts) = extends-on (all-extends xs (directly_above heads t)) (up-extends (with_types xs (directly_above heads t)) ts)

  up-new : (xs ts : List SourceType) (u t : SourceType) → Contains ts u → Contains (directly_above heads u) t → Has (gone_up heads xs ts) t
  up-new xs [] u t q r = absurd (let h = q.1 in omega arith)
  up-new xs (k ∷ ks) u t q r = by (contains-cases k u ks q) (λ s. up-new (with_types xs (directly_above heads k)) ks u t s r) where
    by : (k ≡ u) ⊎ Contains ks u → (Contains ks u → Has (gone_up heads (with_types xs (directly_above heads k)) ks) t) → Has (gone_up heads (with_types xs (directly_above heads k)) ks) t
    by (inl e) more = extends-has (up-extends (with_types xs (directly_above heads k)) ks) t
        (all-new xs (directly_above heads k) t (subst (λ (j : SourceType). Contains (directly_above heads j) t) (sym e) r))
    by (inr s) more = more s

  -- from which of some types one is directly above
  record From (ts : List SourceType) (t : SourceType) : Type 0 where
    below : SourceType
    there : Contains ts below
    above : Contains (directly_above heads below) t

  up-only : (xs ts : List SourceType) (t : SourceType) → Has (gone_up heads xs ts) t → Has xs t ⊎ From ts t
  up-only xs [] t h = inl h
  up-only xs (k ∷ ks) t h = by (up-only (with_types xs (directly_above heads k)) ks t h) where
    here : Has xs t ⊎ Contains (directly_above heads k) t → Has xs t ⊎ From (k ∷ ks) t
    here (inl j) = inl j
    here (inr q) = inr (record { below = k; there = contains-here k ks; above = q })

    by : Has (with_types xs (directly_above heads k)) t ⊎ From ks t → Has xs t ⊎ From (k ∷ ks) t
    by (inl j) = here (all-only xs (directly_above heads k) t j)
    by (inr f) = inr (record { below = f.below; there = contains-later k f.below ks f.there; above = f.above })

  -- ---- ways upwards by their last step

  data Climbs (s : SourceType) : ℕ → SourceType → Type 0 where
    at_start : {n : ℕ} → Climbs s n s
    one_up : {n : ℕ} {t u : SourceType} → Climbs s n t → Contains (directly_above heads t) u → Climbs s (suc n) u

  longer : {s t : SourceType} {n : ℕ} → Climbs s n t → Climbs s (suc n) t
  longer at_start = at_start
  longer (one_up c q) = one_up (longer c) q

  before : {s v t : SourceType} {n : ℕ} → Contains (directly_above heads s) v → Climbs v n t → Climbs s (suc n) t
  before q at_start = one_up at_start q
  before q (one_up c r) = one_up (before q c) r

  none-further : (b : Bool) → (b || false) ≡ true → b ≡ true
  none-further true e = refl
  none-further false e = e

  climbs : (n : ℕ) (s t : SourceType) → is_within heads n s t ≡ true → Climbs s n t
  climbs zero s t e = subst (Climbs s 0) (same-equal s t (none-further (same_source_type s t) e)) at_start
  climbs (suc n) s t e = bool_cases (λ b. (b || list_any (λ u. is_within heads n u t) (directly_above heads s)) ≡ true → Climbs s (suc n) t) (same_source_type s t)
      (λ q _. subst (Climbs s (suc n)) (same-equal s t q) at_start)
      (λ _ h. let p = contains-any (λ u. is_within heads n u t) (directly_above heads s) h in before p.there (climbs n p.element t p.passes))
      (sym (step heads n s t) ∙ e)

  from-super : (n : ℕ) (s v t : SourceType) → Contains (directly_above heads s) v → is_within heads n v t ≡ true → is_within heads (suc n) s t ≡ true
  from-super n s v t q e = step heads n s t ∙ or-right (same_source_type s t) _ (any-contains (λ u. is_within heads n u t) (directly_above heads s) v q e)

  further : (n : ℕ) (s t u : SourceType) → is_within heads n s t ≡ true → Contains (directly_above heads t) u → is_within heads (suc n) s u ≡ true
  further zero s t u e q =
      let same : t ≡ s = sym (same-equal s t (none-further (same_source_type s t) e)) in
      from-super 0 s u u (subst (λ (k : SourceType). Contains (directly_above heads k) u) same q) (itself heads 0 u)
  further (suc n) s t u e q = bool_cases (λ b. (b || list_any (λ v. is_within heads n v t) (directly_above heads s)) ≡ true → is_within heads (suc (suc n)) s u ≡ true) (same_source_type s t)
      (λ k _. from-super (suc n) s u u (subst (λ (j : SourceType). Contains (directly_above heads j) u) (sym (same-equal s t k)) q) (itself heads (suc n) u))
      (λ _ h. let p = contains-any (λ v. is_within heads n v t) (directly_above heads s) h in from-super (suc n) s p.element u p.there (further n p.element t u p.passes q))
      (sym (step heads n s t) ∙ e)

  within : {s t : SourceType} {n : ℕ} → Climbs s n t → is_within heads n s t ≡ true
  within {s = s} {n = n} at_start = itself heads n s
  within {s = s} (one_up {n = n} {t = t} {u = u} c q) = further n s t u (within c) q

  -- ---- step by step

  module _ (s : SourceType) where
    -- what is met are the types in so many steps; of those before a place, those above are met too
    record IsLevel (k : ℕ) (met : List SourceType) (from : ℕ) : Type 0 where
      ways : (t : SourceType) → Has met t → Climbs s k t
      all : (t : SourceType) → Climbs s k t → Has met t
      done : (u t : SourceType) → Has (take from met) u → Contains (directly_above heads u) t → Has met t

    begins : IsLevel 0 (s ∷ []) 0
    begins = record {
      ways = λ t h. subst (Climbs s 0) (only-one t s h) at_start;
      all = only;
      done = λ u t h q. absurd cc;
    } where
      only : (t : SourceType) → Climbs s 0 t → Has (s ∷ []) t
      only t at_start = rw (same-refl s) refl

    module _ (k : ℕ) (met : List SourceType) (from : ℕ) (l : IsLevel k met from) where
      next : List SourceType
      next = gone_up heads met (drop from met)

      abbrev extends : Extends met (gone_up heads met (drop from met))
      extends = up-extends met (drop from met)

      parts : (t : SourceType) → Has met t → Has (take from met) t ⊎ Has (drop from met) t
      parts t h = has-either (take from met) (drop from met) t (subst (λ (ks : List SourceType). Has ks t) (sym (take-append-drop from met)) h)

      met-drop : (t : SourceType) → Has (drop from met) t → Has met t
      met-drop t h = subst (λ (ks : List SourceType). Has ks t) (take-append-drop from met) (any-append (λ u. same_source_type u t) (take from met) (drop from met) ∙ or-right (has_type (take from met) t) _ h)

      above-met : (u t : SourceType) → Has met u → Contains (directly_above heads u) t → Has (gone_up heads met (drop from met)) t
      above-met u t h q = by (parts u h) where
        by : Has (take from met) u ⊎ Has (drop from met) u → Has (gone_up heads met (drop from met)) t
        by (inl k) = extends-has extends t (l.done u t k q)
        by (inr k) = up-new met (drop from met) u t (contained (drop from met) u k) q

      ways-next : (t : SourceType) → Has (gone_up heads met (drop from met)) t → Climbs s (suc k) t
      ways-next t h = by (up-only met (drop from met) t h) where
        by : Has met t ⊎ From (drop from met) t → Climbs s (suc k) t
        by (inl j) = longer (l.ways t j)
        by (inr f) = one_up (l.ways f.below (met-drop f.below (has-contained (drop from met) f.below f.there))) f.above

      all-next : (t : SourceType) → Climbs s (suc k) t → Has (gone_up heads met (drop from met)) t
      all-next t at_start = extends-has extends t (l.all t at_start)
      all-next t (one_up {t = u} c q) = above-met u t (l.all u c) q

      goes-on : IsLevel (suc k) (gone_up heads met (drop from met)) (length met)
      goes-on = record {
        ways = ways-next;
        all = all-next;
        done = λ u t h q. above-met u t (subst (λ (ks : List SourceType). Has ks u) (ap (take (length met)) extends.is ∙ take_at met extends.more (length met) refl) h) q;
      }

    cast : {m n : ℕ} {t : SourceType} → m ≡ n → Climbs s m t → Climbs s n t
    cast {t = t} e c = subst (λ (k : ℕ). Climbs s k t) e c

    all-climbed : (n k : ℕ) (met : List SourceType) (from : ℕ) → IsLevel k met from → (t : SourceType) → Has (climbed heads n met from) t → Climbs s (n + k) t
    all-climbed zero k met from l t h = cast (omega arith) (l.ways t h)
    all-climbed (suc n) k met from l t h = cast (omega arith) (all-climbed n (suc k) (gone_up heads met (drop from met)) (length met) (goes-on k met from l) t h)

    all-reached : (n k : ℕ) (met : List SourceType) (from : ℕ) → IsLevel k met from → (t : SourceType) → Climbs s (n + k) t → Has (climbed heads n met from) t
    all-reached zero k met from l t c = l.all t (cast (omega arith) c)
    all-reached (suc n) k met from l t c = all-reached n (suc k) (gone_up heads met (drop from met)) (length met) (goes-on k met from l) t (cast (omega arith) c)

    same-test : (a b : Bool) → (a ≡ true → b ≡ true) → (b ≡ true → a ≡ true) → a ≡ b
    same-test true true f g = refl
    same-test true false f g = absurd (let e : false ≡ true = f refl in cc)
    same-test false true f g = absurd (let e : false ≡ true = g refl in cc)
    same-test false false f g = refl

    pub met_are_above : (t : SourceType) → has_type (all_met heads s) t ≡ has_type (supertypes heads s) t
    unfolding all_met supertypes
    met_are_above t =
        let n = most_steps heads in
        let e : n + 0 ≡ n = omega arith in
        same-test (has_type (climbed heads n (s ∷ []) 0) t) (is_within heads n s t)
        (λ h. within (cast e (all-climbed n 0 (s ∷ []) 0 begins t h)))
        (λ h. all-reached n 0 (s ∷ []) 0 begins t (cast (sym e) (climbs n s t h)))

  -- ---- the loop

  past_all : {A : Type 0} (xs : List A) → drop (length xs) xs ≡ []
  past_all [] = refl
  past_all (x ∷ xs) = past_all xs

  -- where none leads further, nothing more is come by
  pub all_done : (n : ℕ) (met : List SourceType) → climbed heads n met (length met) ≡ met
  all_done zero met = refl
  all_done (suc n) met = ap (λ (ts : List SourceType). climbed heads n (gone_up heads met ts) (length met)) (past_all met) ∙ all_done n met

pub itself_above : (heads : List ClassHead) (s t : SourceType) → same_source_type s t ≡ true → has_type (supertypes heads s) t ≡ true
unfolding supertypes
itself_above heads s t e = subst (λ (u : SourceType). is_within heads (most_steps heads) s u ≡ true) (same-equal s t e) (itself heads (most_steps heads) s)
