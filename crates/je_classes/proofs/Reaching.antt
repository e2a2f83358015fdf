-- A class is above another one exactly where it is reached from there.
use Rattle.std.proofs.Common.{◌≡◌, ℕ, zero, suc, ◌≢◌, ◌<◌, ◌≤◌, ◌+◌, ◌-◌, List, [], ◌∷◌, ◌++◌, length, map, Some, None, refl, sym, ap, ◌∙◌, subst, arith}
use Rattle.std.specs.Prelude.{true, false, not, ◌&&◌, ◌||◌, Option, slice_get, nat_eq, nat_lt, if◌then◌else◌}
use Rattle.std.specs.List.{list_any, Contains, IsDistinct, AllByRecursion}
use Rattle.std.proofs.lemmas.Bool.Decides.{nat_tests}
use Rattle.std.proofs.lemmas.Option.{none-some, same_Some}
use Rattle.std.proofs.lemmas.Map.Steps.{length-le_from_distinct_below}
use Rattle.je_core.specs.declared.types.ClassId.{ClassId}
use Rattle.je_core.specs.Core.{CoreProgram}
use Rattle.je_classes.specs.Hierarchy.{class_at, supers_of, same_class, is_below, Below, same, above}
use Rattle.je_classes.specs.way.Reaching.{has, with_reached, with_all, found_at, found_from, found}
use Rattle.je_classes.proofs.Below.{same_class-refl, same_class-equal, below-to, below-from, below-itself}
use Rattle.je_classes.proofs.Lists.{bool_cases, any-contains, contains-any}
use Rattle.je_classes.proofs.Paths.{supers-within}

abbrev pub Has : List ClassId → ClassId → Type 0
Has xs c = has xs c ≡ true

-- lists with one more

pub has-left : (xs ys : List ClassId) (c : ClassId) → Has xs c → Has (xs ++ ys) c
has-left [] ys c h = absurd cc
has-left (x ∷ xs) ys c h = bool_cases (λ b. (b || has xs c) ≡ true → (b || has (xs ++ ys) c) ≡ true) (same_class c x) (λ _ _. refl) (λ _ k. has-left xs ys c k) h

pub has-last : (xs : List ClassId) (c : ClassId) → Has (xs ++ c ∷ []) c
has-last [] c = rw (same_class-refl c) refl
has-last (x ∷ xs) c = bool_cases (λ b. (b || has (xs ++ c ∷ []) c) ≡ true) (same_class c x) (λ _. refl) (λ _. has-last xs c)

-- what is there once one more is
pub has-more : (xs : List ClassId) (c e : ClassId) (P : ClassId → Type 0) → ((x : ClassId) → Has xs x → P x) → P c → Has (xs ++ c ∷ []) e → P e
has-more [] c e P f p h = bool_cases (λ b. same_class e c ≡ b → (b || false) ≡ true → P e) (same_class e c)
    (λ _ q _. subst P (sym (same_class-equal e c q)) p) (λ _ _ k. absurd cc) refl h
has-more (x ∷ xs) c e P f p h = bool_cases (λ b. same_class e x ≡ b → (b || has (xs ++ c ∷ []) e) ≡ true → P e) (same_class e x)
    (λ _ q _. f e (rw q refl))
    (λ _ q k. has-more xs c e P (λ y r. f y (bool_cases (λ b. (b || has xs y) ≡ true) (same_class y x) (λ _. refl) (λ _. r))) p k) refl h

pub get-left : (xs ys : List ClassId) (i : ℕ) (c : ClassId) → slice_get xs i ≡ Some c → slice_get (xs ++ ys) i ≡ Some c
get-left [] ys i c h = absurd (none-some c h)
get-left (x ∷ xs) ys zero c h = h
get-left (x ∷ xs) ys (suc i) c h = get-left xs ys i c h

-- the place of a class
pub record Placed (xs : List ClassId) (c : ClassId) : Type 0 where
  pub place : ℕ
  pub below : place < length xs
  pub is : slice_get xs place ≡ Some c

pub placed : (xs : List ClassId) (c : ClassId) → Has xs c → Placed xs c
placed [] c h = absurd cc
placed (x ∷ xs) c h = bool_cases (λ b. same_class c x ≡ b → (b || has xs c) ≡ true → Placed (x ∷ xs) c) (same_class c x)
    (λ _ q _. record { place = 0; below = omega arith; is = ap Some (sym (same_class-equal c x q)) })
    (λ _ _ k. let r = placed xs c k in record { place = suc r.place; below = omega (arith, r.below); is = r.is }) refl h

-- each number once

abbrev pub numbers : List ClassId → List ℕ
numbers xs = map (λ (c : ClassId). c.0) xs

pub number-any : (xs : List ClassId) (n : ℕ) → list_any (nat_eq n) (numbers xs) ≡ has xs (record { 0 = n })
number-any [] n = refl
number-any (x ∷ xs) n = ap (λ b. nat_eq n x.0 || b) (number-any xs n)

pub length-numbers : (xs : List ClassId) → length (numbers xs) ≡ length xs
length-numbers [] = refl
length-numbers (x ∷ xs) = ap suc (length-numbers xs)

none-last : (n m : ℕ) (xs : List ClassId) → nat_eq n m ≡ false → AllByRecursion (λ y. nat_eq n y ≡ false) (numbers xs) → AllByRecursion (λ y. nat_eq n y ≡ false) (numbers (xs ++ record { 0 = m } ∷ []))
none-last n m [] e a = (e, tt)
none-last n m (x ∷ xs) e a = (a.0, none-last n m xs e a.1)

abbrev pub Once : List ClassId → Type 0
Once xs = IsDistinct nat_eq (numbers xs)

pub once-last : (xs : List ClassId) (c : ClassId) → Once xs → has xs c ≡ false → Once (xs ++ c ∷ [])
unfolding IsDistinct
once-last [] c u h = (tt, tt)
once-last (x ∷ xs) c u h = bool_cases (λ b. same_class c x ≡ b → (b || has xs c) ≡ false → Once (x ∷ (xs ++ c ∷ []))) (same_class c x)
    (λ _ _ k. absurd cc)
    (λ _ q k. let e : nat_eq x.0 c.0 ≡ false = grind (arith, nat_tests) in (none-last x.0 c.0 xs e u.0, once-last xs c u.1 k)) refl h

-- reaching one class more

module _ (n : ℕ) where
  -- either it is added, or nothing changes
  reached-cases : (P : List ClassId → Type 0) (xs : List ClassId) (c : ClassId) →
      (nat_lt c.0 n ≡ true → has xs c ≡ false → P (xs ++ c ∷ [])) → ((nat_lt c.0 n ≡ true → Has xs c) → P xs) → P (with_reached n xs c)
  reached-cases P xs c add stay = bool_cases (λ b. nat_lt c.0 n ≡ b → P (if b && not (has xs c) then xs ++ c ∷ [] else xs)) (nat_lt c.0 n)
      (λ _ l. bool_cases (λ b. has xs c ≡ b → P (if not b then xs ++ c ∷ [] else xs)) (has xs c) (λ _ h. stay (λ _. h)) (λ _ h. add l h) refl)
      (λ _ l. stay (λ k. absurd cc)) refl

  pub reached-has : (xs : List ClassId) (c e : ClassId) → Has xs e → Has (with_reached n xs c) e
  reached-has xs c e h = reached-cases (λ ys. Has ys e) xs c (λ _ _. has-left xs (c ∷ []) e h) (λ _. h)

  pub reached-new : (xs : List ClassId) (c : ClassId) → nat_lt c.0 n ≡ true → Has (with_reached n xs c) c
  reached-new xs c l = reached-cases (λ ys. Has ys c) xs c (λ _ _. has-last xs c) (λ h. h l)

  pub reached-only : (xs : List ClassId) (c : ClassId) (P : ClassId → Type 0) → ((x : ClassId) → Has xs x → P x) → (nat_lt c.0 n ≡ true → P c) → (e : ClassId) → Has (with_reached n xs c) e → P e
  reached-only xs c P f p = reached-cases (λ ys. (e : ClassId) → Has ys e → P e) xs c (λ l _ e h. has-more xs c e P f (p l) h) (λ _. f)

  pub reached-get : (xs : List ClassId) (c : ClassId) (i : ℕ) (e : ClassId) → slice_get xs i ≡ Some e → slice_get (with_reached n xs c) i ≡ Some e
  reached-get xs c i e h = reached-cases (λ ys. slice_get ys i ≡ Some e) xs c (λ _ _. get-left xs (c ∷ []) i e h) (λ _. h)

  pub reached-once : (xs : List ClassId) (c : ClassId) → Once xs → Once (with_reached n xs c)
  reached-once xs c u = reached-cases Once xs c (λ _ h. once-last xs c u h) (λ _. u)

  -- the same of a list

  pub all-has : (xs cs : List ClassId) (e : ClassId) → Has xs e → Has (with_all n xs cs) e
  all-has xs [] e h = h
  all-has xs (c ∷ cs) e h = all-has (with_reached n xs c) cs e (reached-has xs c e h)

  pub all-new : (xs cs : List ClassId) (e : ClassId) → Has cs e → nat_lt e.0 n ≡ true → Has (with_all n xs cs) e
  all-new xs [] e h l = absurd cc
  all-new xs (c ∷ cs) e h l = bool_cases (λ b. same_class e c ≡ b → (b || has cs e) ≡ true → Has (with_all n (with_reached n xs c) cs) e) (same_class e c)
      (λ _ q _. all-has (with_reached n xs c) cs e (subst (λ (z : ClassId). Has (with_reached n xs z) e) (same_class-equal e c q) (reached-new xs e l)))
      (λ _ _ k. all-new (with_reached n xs c) cs e k l) refl h

  pub all-only : (xs cs : List ClassId) (P : ClassId → Type 0) → ((x : ClassId) → Has xs x → P x) → ((x : ClassId) → Has cs x → nat_lt x.0 n ≡ true → P x) → (e : ClassId) → Has (with_all n xs cs) e → P e
  all-only xs [] P f g = f
  all-only xs (c ∷ cs) P f g = all-only (with_reached n xs c) cs P (reached-only xs c P f (λ l. g c (rw (same_class-refl c) refl) l))
      (λ x h l. g x (bool_cases (λ b. (b || has cs x) ≡ true) (same_class x c) (λ _. refl) (λ _. h)) l)

  pub all-get : (xs cs : List ClassId) (i : ℕ) (e : ClassId) → slice_get xs i ≡ Some e → slice_get (with_all n xs cs) i ≡ Some e
  all-get xs [] i e h = h
  all-get xs (c ∷ cs) i e h = all-get (with_reached n xs c) cs i e (reached-get xs c i e h)

  pub all-once : (xs cs : List ClassId) → Once xs → Once (with_all n xs cs)
  all-once xs [] u = u
  all-once xs (c ∷ cs) u = all-once (with_reached n xs c) cs (reached-once xs c u)

  pub within-length : (xs : List ClassId) → Once xs → ((e : ClassId) → Has xs e → nat_lt e.0 n ≡ true) → length xs ≤ n
  within-length xs u w = subst (λ k. k ≤ n) (length-numbers xs) (length-le_from_distinct_below (numbers xs) n u
      (λ k h. let l : nat_lt k n ≡ true = w (record { 0 = k }) (sym (number-any xs k) ∙ h) in grind (arith, nat_tests)))

-- members, and places within the length

pub has-contained : (cs : List ClassId) (e : ClassId) → Contains cs e → Has cs e
has-contained cs e q = any-contains (same_class e) cs e q (same_class-refl e)

pub contained : (cs : List ClassId) (e : ClassId) → Has cs e → Contains cs e
contained cs e h = let q = contains-any (same_class e) cs h in subst (Contains cs) (sym (same_class-equal e q.element q.passes)) q.there

pub past : (xs : List ClassId) (at : ℕ) → slice_get xs at ≡ None → length xs ≤ at
past [] at e = omega arith
past (x ∷ xs) zero e = absurd (none-some x (sym e))
past (x ∷ xs) (suc at) e = let h = past xs at e in omega (arith, h)

pub get-first : (xs : List ClassId) (i : ℕ) (c : ClassId) → i < length xs → (ys : List ClassId) → ((j : ℕ) (x : ClassId) → slice_get xs j ≡ Some x → slice_get ys j ≡ Some x) → slice_get ys i ≡ Some c → slice_get xs i ≡ Some c
get-first xs i c l ys f h = by (slice_get xs i) refl
  where
    by : (o : Option ClassId) → slice_get xs i ≡ o → o ≡ Some c
    by None e = absurd (let k = past xs i e in omega arith)
    by (Some x) e = sym (f i x e) ∙ h

pub within-get : (xs : List ClassId) (i : ℕ) (c : ClassId) → slice_get xs i ≡ Some c → i < length xs
within-get [] i c e = absurd (none-some c e)
within-get (x ∷ xs) zero c e = omega arith
within-get (x ∷ xs) (suc i) c e = let h = within-get xs i c e in omega (arith, h)

pub has-got : (ys : List ClassId) (i : ℕ) (c : ClassId) → slice_get ys i ≡ Some c → Has ys c
has-got [] i c e = absurd (none-some c e)
has-got (y ∷ ys) zero c e = let q : y ≡ c = same_Some y c e in rw q (rw (same_class-refl c) refl)
has-got (y ∷ ys) (suc i) c e = bool_cases (λ b. (b || has ys c) ≡ true) (same_class c y) (λ _. refl) (λ _. has-got ys i c e)

-- the walk

module _ (p : CoreProgram) (own d : ClassId) where
  abbrev n : ℕ
  n = length p.classes

  below-further : {c d e : ClassId} → Below p c d → Contains (supers_of p d) e → Below p c e
  below-further same q = above q same
  below-further (above q r) s = above q (below-further r s)

  abbrev AllBelow : List ClassId → Type 0
  AllBelow xs = (e : ClassId) → Has xs e → Below p own e

  sound : (left at : ℕ) (xs : List ClassId) → AllBelow xs → found_from p d left at xs ≡ true → Below p own d
  unfolding found_from
  sound zero at xs f h = absurd cc
  sound (suc left) at xs f h = by (slice_get xs at) refl h (sound left (suc at))
    where
      by : (o : Option ClassId) → slice_get xs at ≡ o → found_at (found_from p d left (suc at)) p d xs o ≡ true →
          ((ys : List ClassId) → AllBelow ys → found_from p d left (suc at) ys ≡ true → Below p own d) → Below p own d
      by None e k more = absurd cc
      by (Some c) e k more =
          let here : Below p own c = f c (has-got xs at c e) in
          bool_cases (λ b. has (supers_of p c) d ≡ b → (if b then true else found_from p d left (suc at) (with_all n xs (supers_of p c))) ≡ true → Below p own d) (has (supers_of p c) d)
          (λ _ q _. below-further here (contained (supers_of p c) d q))
          (λ _ _ r. more (with_all n xs (supers_of p c)) (all-only n xs (supers_of p c) (Below p own) f (λ x q _. below-further here (contained (supers_of p c) x q))) r) refl k

  -- the supers of a class are reached, and none is sought
  abbrev Closed : List ClassId → ClassId → Type 0
  Closed xs c = (e : ClassId) → Contains (supers_of p c) e → (same_class d e ≡ false) × (nat_lt e.0 n ≡ true → Has xs e)

  record Walked (at : ℕ) (xs : List ClassId) : Type 0 where
    once : Once xs
    within : (e : ClassId) → Has xs e → nat_lt e.0 n ≡ true
    first : nat_lt own.0 n ≡ true → Has xs own
    closed : (i : ℕ) (c : ClassId) → i < at → slice_get xs i ≡ Some c → Closed xs c

  -- where all that are reached are walked, the one that is sought is not above
  over : (at : ℕ) (xs : List ClassId) → Walked at xs → length xs ≤ at → same_class d own ≡ false → ¬ Below p own d
  over at xs w l other b = never own b other w.first
    where
      never : (c : ClassId) → Below p c d → same_class d c ≡ false → (nat_lt c.0 n ≡ true → Has xs c) → ⊥
      never c same e h = let r = same_class-refl d in absurd cc
      never c (above {e = k} q r) e h =
          let below : nat_lt c.0 n ≡ true = let s : c.0 < n = supers-within p c k (class_at p c) refl q in grind (arith, nat_tests) in
          let place = placed xs c (h below) in
          let next = w.closed place.place c (omega (arith, place.below, l)) place.is k q in
          never k r next.0 next.1

  -- a class more is walked
  walk : (at : ℕ) (xs : List ClassId) (c : ClassId) → Walked at xs → slice_get xs at ≡ Some c → has (supers_of p c) d ≡ false → Walked (suc at) (with_all n xs (supers_of p c))
  walk at xs c w g h = record {
    once = all-once n xs (supers_of p c) w.once;
    within = all-only n xs (supers_of p c) (λ e. nat_lt e.0 n ≡ true) w.within (λ x _ l. l);
    first = λ l. all-has n xs (supers_of p c) own (w.first l);
    closed = by;
  }
    where
      unlike : (e : ClassId) → Contains (supers_of p c) e → same_class d e ≡ false
      unlike e q = bool_cases (λ b. same_class d e ≡ b → b ≡ false) (same_class d e)
          (λ _ s. let f : has (supers_of p c) d ≡ true = any-contains (same_class d) (supers_of p c) e q s in absurd cc) (λ _ _. refl) refl

      here : (k : ClassId) → c ≡ k → Closed (with_all n xs (supers_of p c)) k
      here k s = subst (Closed (with_all n xs (supers_of p c))) s (λ e q. (unlike e q, λ l. all-new n xs (supers_of p c) e (has-contained (supers_of p c) e q) l))

      by : (i : ℕ) (k : ClassId) → i < suc at → slice_get (with_all n xs (supers_of p c)) i ≡ Some k → Closed (with_all n xs (supers_of p c)) k
      by i k l e = bool_cases (λ b. nat_lt i at ≡ b → Closed (with_all n xs (supers_of p c)) k) (nat_lt i at)
          (λ _ t. let lt : i < at = grind (arith, nat_tests) in
          let old = w.closed i k lt (get-first xs i k (let z = within-get xs at c g in omega (arith, lt, z)) (with_all n xs (supers_of p c)) (all-get n xs (supers_of p c)) e) in
          λ x q. ((old x q).0, λ m. all-has n xs (supers_of p c) x ((old x q).1 m)))
          (λ _ f. let is : i ≡ at = grind (arith, nat_tests) in
          here k (same_Some c k (sym (all-get n xs (supers_of p c) at c g) ∙ ap (slice_get (with_all n xs (supers_of p c))) (sym is) ∙ e))) refl

  complete : (left at : ℕ) (xs : List ClassId) → n ≤ left + at → Walked at xs → same_class d own ≡ false → found_from p d left at xs ≡ false → ¬ Below p own d
  unfolding found_from
  complete zero at xs l w other h = let k = within-length n xs w.once w.within in over at xs w (omega (arith, k, l)) other
  complete (suc left) at xs l w other h = by (slice_get xs at) refl h (λ ys v. complete left (suc at) ys (omega (arith, l)) v other)
    where
      by : (o : Option ClassId) → slice_get xs at ≡ o → found_at (found_from p d left (suc at)) p d xs o ≡ false →
          ((ys : List ClassId) → Walked (suc at) ys → found_from p d left (suc at) ys ≡ false → ¬ Below p own d) → ¬ Below p own d
      by None e k more = over at xs w (past xs at e) other
      by (Some c) e k more = bool_cases (λ b. has (supers_of p c) d ≡ b → (if b then true else found_from p d left (suc at) (with_all n xs (supers_of p c))) ≡ false → ¬ Below p own d) (has (supers_of p c) d)
          (λ _ _ r. absurd cc)
          (λ _ q r. more (with_all n xs (supers_of p c)) (walk at xs c w e q) r) refl k

  begins : Walked 0 (with_reached n [] own)
  unfolding IsDistinct
  begins = record {
    once = reached-once n [] own tt;
    within = reached-only n [] own (λ e. nat_lt e.0 n ≡ true) (λ x h. absurd cc) (λ l. l);
    first = reached-new n [] own;
    closed = λ i c l e. absurd (omega arith);
  }

  below-begins : AllBelow (with_reached n [] own)
  below-begins = reached-only n [] own (Below p own) (λ x h. absurd cc) (λ _. same)

  found_decides : same_class own d ≡ false → found p own d ≡ is_below p own d
  found_decides s = bool_cases (λ b. found p own d ≡ b → b ≡ is_below p own d) (found p own d)
      (λ _ f. sym (below-from p (sound n 0 (with_reached n [] own) below-begins f)))
      (λ _ f. bool_cases (λ b. is_below p own d ≡ b → false ≡ b) (is_below p own d)
      (λ _ r. absurd (complete n 0 (with_reached n [] own) (omega arith) begins (let t : same_class d own ≡ false = grind (arith, nat_tests) in t) f (below-to p own d r)))
      (λ _ _. refl) refl) refl

  pub below_itself : own.0 ≡ d.0 → true ≡ is_below p own d
  below_itself e = subst (λ (z : ClassId). true ≡ is_below p own z) (let s : same_class own d ≡ true = grind (arith, nat_tests) in same_class-equal own d s) (sym (below-itself p own))

  pub below_another : own.0 ≢ d.0 → found p own d ≡ is_below p own d
  below_another e = let s : same_class own d ≡ false = grind (arith, nat_tests) in found_decides s

-- one step of the walk

pub found_over : (p : CoreProgram) (d : ClassId) (at : ℕ) (xs : List ClassId) → found_from p d 0 at xs ≡ false
unfolding found_from
found_over p d at xs = refl

pub found_end : (p : CoreProgram) (d : ClassId) (left at : ℕ) (xs : List ClassId) → slice_get xs at ≡ None → found_from p d left at xs ≡ false
unfolding found_from
found_end p d zero at xs e = refl
found_end p d (suc left) at xs e = rw e refl

pub found_super : (p : CoreProgram) (d : ClassId) (left at : ℕ) (xs : List ClassId) (c : ClassId) → 0 < left → slice_get xs at ≡ Some c → has (supers_of p c) d ≡ true → found_from p d left at xs ≡ true
unfolding found_from
found_super p d zero at xs c l e h = absurd (omega arith)
found_super p d (suc left) at xs c l e h = rw (e, h) refl

pub found_further : (p : CoreProgram) (d : ClassId) (left at : ℕ) (xs : List ClassId) (c : ClassId) → 0 < left → slice_get xs at ≡ Some c → has (supers_of p c) d ≡ false →
    found_from p d left at xs ≡ found_from p d (left - 1) (at + 1) (with_all (length p.classes) xs (supers_of p c))
unfolding found_from
found_further p d zero at xs c l e h = absurd (omega arith)
found_further p d (suc left) at xs c l e h =
    let less : left ≡ suc left - 1 = omega arith in
    let next : suc at ≡ at + 1 = omega arith in
    rw (e, h) (λ i. found_from p d (less i) (next i) (with_all (length p.classes) xs (supers_of p c)))
