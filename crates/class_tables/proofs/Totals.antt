-- How many slots the instances of a class have.
use Rattle.std.proofs.Common.{◌≡◌, ℕ, zero, suc, ◌+◌, ◌*◌, ◌<◌, ◌≤◌, ◌++◌, List, [], ◌∷◌, length, take, get_or, set, Option, Some, None, refl, sym, ap, ◌∙◌, subst, arith, inl, inr}
use Rattle.std.specs.Prelude.{Bool, true, false, ◌⊎◌, slice_get, unwrap_or, nat_eq, if◌then◌else◌}
use Rattle.std.specs.List.{Contains, count_by}
use Rattle.std.proofs.lemmas.Bool.{cases_lt}
use Rattle.std.proofs.lemmas.Bool.Decides.{nat_tests}
use Rattle.std.proofs.lemmas.List.{length-append, take_more, take-append-le}
use Rattle.std.proofs.lemmas.List.Sums.{length-filter, count_by-le-length, count_by_more_yes, count_by_more_no}
use Rattle.std.proofs.lemmas.Option.{same_Some, slice_get_past, slice_get_within, get_or_from_slice_get}
use Rattle.std.proofs.Math.Seq.{take-append_seam}
use Rattle.je_core.specs.declared.types.ClassId.{ClassId}
use Rattle.je_core.specs.Core.{CoreField, CoreClass, CoreProgram}
use Rattle.je_classes.specs.Hierarchy.{class_at, with_superclass, supers_in, supers_of, IsAcyclic}
use Rattle.je_classes.specs.Members.{In, first, further}
use Rattle.je_classes.specs.Slots.{is_instance, own_slots, behind_above, fields_upwards, slot_fields}
use Rattle.je_classes.proofs.Lists.{contains-here}
use Rattle.je_classes.proofs.Sets.{in-either}
use Rattle.class_tables.specs.Few.{AreFew}
use Rattle.class_tables.specs.way.Order.{first_in, first_super, IsReady, AreBehind, none_yet, one_more, IsWhole}
use Rattle.class_tables.specs.way.Slots.{total_of, known, known_above, IsKnownAbove, AreTotals}
use Rattle.class_tables.proofs.Orders.{get-old, get-new, length-push, one_class}

-- ---- the fields of slots

superclass-above : (p : CoreProgram) (c d : ClassId) (k : CoreClass) → class_at p c ≡ Some k → k.superclass ≡ Some d → Contains (supers_of p c) d
superclass-above p c d k e q = subst (λ o. Contains (supers_in o) d) (sym e) (subst (λ o. Contains (with_superclass o k.interfaces) d) (sym q) (contains-here d k.interfaces))

pub superclass-first : (p : CoreProgram) (c d : ClassId) (k : CoreClass) → class_at p c ≡ Some k → k.superclass ≡ Some d → first_super p c ≡ Some d
superclass-first p c d k e q = ap (λ o. first_in (supers_in o)) e ∙ ap (λ o. first_in (with_superclass o k.interfaces)) q

module _ (p : CoreProgram) (a : IsAcyclic p) where
  -- the depth of a class, if it is one, is below a bound
  abbrev Below : ℕ → Option ClassId → Type 0
  Below n o = (c : ClassId) → o ≡ Some c → a.depth c < n

  -- more steps than the depth make no difference
  steady : (n m : ℕ) (o : Option ClassId) → Below n o → Below m o → fields_upwards p n o ≡ fields_upwards p m o
  steady n m None f g = refl
  steady zero m (Some c) f g = absurd (let l : a.depth c < 0 = f c refl in omega (arith, l))
  steady (suc n) zero (Some c) f g = absurd (let l : a.depth c < 0 = g c refl in omega (arith, l))
  steady (suc n) (suc m) (Some c) f g = by (class_at p c) refl (steady n m)
    where
      by : (o : Option CoreClass) → class_at p c ≡ o → ((s : Option ClassId) → Below n s → Below m s → fields_upwards p n s ≡ fields_upwards p m s) → behind_above (fields_upwards p n) o ≡ behind_above (fields_upwards p m) o
      by None e more = refl
      by (Some k) e more = ap (λ fs. fs ++ own_slots k) (more k.superclass
          (λ d q. let x : a.depth d < a.depth c = a.falls c d (superclass-above p c d k e q) in let y : a.depth c < suc n = f c refl in omega (arith, x, y))
          (λ d q. let x : a.depth d < a.depth c = a.falls c d (superclass-above p c d k e q) in let y : a.depth c < suc m = g c refl in omega (arith, x, y)))

  -- a class's slots are those of its superclass, then its own
  pub slots-are : (c : ClassId) (k : CoreClass) → class_at p c ≡ Some k → slot_fields p (Some c) ≡ slot_fields p k.superclass ++ own_slots k
  unfolding slot_fields
  slots-are c k e = by (length p.classes) refl
    where
      by : (n : ℕ) → length p.classes ≡ n → fields_upwards p n (Some c) ≡ fields_upwards p (length p.classes) k.superclass ++ own_slots k
      by zero q = absurd (let l : a.depth c < length p.classes = a.within c in omega (arith, l, q))
      by (suc n) q = ap (behind_above (fields_upwards p n)) e ∙ ap (λ fs. fs ++ own_slots k) (steady n (length p.classes) k.superclass
          (λ d s. let x : a.depth d < a.depth c = a.falls c d (superclass-above p c d k e s) in let y : a.depth c < length p.classes = a.within c in omega (arith, x, y, q))
          (λ d s. a.within d))

  pub total-is : (c : ClassId) (k : CoreClass) → class_at p c ≡ Some k → total_of p c ≡ length (slot_fields p k.superclass) + count_by is_instance k.fields
  total-is c k e = ap length (slots-are c k e) ∙ length-append (slot_fields p k.superclass) (own_slots k) ∙ ap (λ n. length (slot_fields p k.superclass) + n) (length-filter is_instance k.fields)

pub total-past : (p : CoreProgram) (c : ClassId) → class_at p c ≡ None → total_of p c ≡ 0
unfolding slot_fields
total-past p c e = by (length p.classes)
  where
    by : (n : ℕ) → length (fields_upwards p n (Some c)) ≡ 0
    by zero = refl
    by (suc n) = ap (λ o. length (behind_above (fields_upwards p n) o)) e

-- ---- how many they are

upwards-few : (p : CoreProgram) → AreFew p → (n : ℕ) (o : Option ClassId) → length (fields_upwards p n o) ≤ n * 2147483648
upwards-few p f n None = omega arith
upwards-few p f zero (Some c) = omega arith
upwards-few p f (suc n) (Some c) = by (class_at p c) refl (upwards-few p f n)
  where
    by : (o : Option CoreClass) → class_at p c ≡ o → ((s : Option ClassId) → length (fields_upwards p n s) ≤ n * 2147483648) → length (behind_above (fields_upwards p n) o) ≤ suc n * 2147483648
    by None e more = omega arith
    by (Some k) e more =
        let x : length (fields_upwards p n k.superclass ++ own_slots k) ≡ length (fields_upwards p n k.superclass) + length (own_slots k) = length-append (fields_upwards p n k.superclass) (own_slots k) in
        let y : length (own_slots k) ≡ count_by is_instance k.fields = length-filter is_instance k.fields in
        let z : count_by is_instance k.fields ≤ length k.fields = count_by-le-length is_instance k.fields in
        let w : length k.fields < 2147483648 = f.fields c k e in
        let v : length (fields_upwards p n k.superclass) ≤ n * 2147483648 = more k.superclass in omega (arith, x, y, z, w, v)

pub slots-few : (p : CoreProgram) → AreFew p → (o : Option ClassId) → length (slot_fields p o) < 4611686018427387904
unfolding slot_fields
slots-few p f o =
    let x : length (fields_upwards p (length p.classes) o) ≤ length p.classes * 2147483648 = upwards-few p f (length p.classes) o in
    let y : length p.classes < 2147483648 = f.classes in omega (arith, x, y)

-- ---- what is known

-- what is known above a class is how many slots its superclass has
pub known-above : (p : CoreProgram) (totals : List ℕ) (c : ClassId) (k : CoreClass) → class_at p c ≡ Some k → IsKnownAbove p totals c → known_above totals k.superclass ≡ length (slot_fields p k.superclass)
unfolding slot_fields
known-above p totals c k e h = by k.superclass refl
  where
    by : (o : Option ClassId) → k.superclass ≡ o → known_above totals o ≡ length (slot_fields p o)
    by None q = refl
    by (Some d) q = h d (superclass-first p c d k e q)

pub known-past : (totals : List ℕ) (c : ClassId) → length totals ≤ c.0 → known totals c ≡ 0
known-past totals c l = ap (λ o. unwrap_or o 0) (slice_get_past totals c.0 l)

-- each of a list whose place is known stands behind its first super
pub behind-at : (p : CoreProgram) {xs : List ClassId} → AreBehind p xs → (i : ℕ) (c : ClassId) → slice_get xs i ≡ Some c → IsReady p (take i xs) c
behind-at p none_yet i c e = absurd cc
behind-at p (one_more xs x b r) i c e = by (cases_lt i (length xs)) (behind-at p b i c)
  where
    by : (i < length xs) ⊎ (length xs ≤ i) → (slice_get xs i ≡ Some c → IsReady p (take i xs) c) → IsReady p (take i (xs ++ x ∷ [])) c
    by (inl l) more = subst (λ ys. IsReady p ys c) (sym (take-append-le i xs (x ∷ []) (omega (arith, l)))) (more (sym (get-old xs x i l) ∙ e))
    by (inr l) more =
        let w : i < length (xs ++ x ∷ []) = slice_get_within (xs ++ x ∷ []) i c e in
        let n : length (xs ++ x ∷ []) ≡ length xs + 1 = length-push xs x in
        let is : length xs ≡ i = omega (arith, l, w, n) in
        subst (λ j. IsReady p (take j (xs ++ x ∷ [])) c) is (subst (λ ys. IsReady p ys c) (sym (take-append_seam xs (x ∷ [])))
        (subst (λ k. IsReady p xs k) (same_Some x c (sym (get-new xs x) ∙ ap (slice_get (xs ++ x ∷ [])) is ∙ e)) r))

pub ready-known : (p : CoreProgram) (order : List ClassId) (i : ℕ) (c : ClassId) (totals : List ℕ) → IsWhole p order → slice_get order i ≡ Some c → AreTotals p (take i order) totals → IsKnownAbove p totals c
ready-known p order i c totals w e t d q = by (cases_lt d.0 (length p.classes))
  where
    by : (d.0 < length p.classes) ⊎ (length p.classes ≤ d.0) → known totals d ≡ total_of p d
    by (inl l) = t.each d (behind-at p w.behind i c e d q l) l
    by (inr l) = known-past totals d (let n = t.count in omega (arith, n, l)) ∙ sym (total-past p d (slice_get_past p.classes d.0 l))

-- ---- noting one more

pub get-set : {A : Type 0} (xs : List A) (i : ℕ) (x : A) → i < length xs → slice_get (set xs i x) i ≡ Some x
get-set [] i x l = absurd (omega (arith, l))
get-set (y ∷ ys) zero x l = refl
get-set (y ∷ ys) (suc i) x l = get-set ys i x (omega (arith, l))

pub get-set-other : {A : Type 0} (xs : List A) (i j : ℕ) (x : A) → (j ≡ i → ⊥) → slice_get (set xs i x) j ≡ slice_get xs j
get-set-other [] i j x n = refl
get-set-other (y ∷ ys) zero zero x n = absurd (n refl)
get-set-other (y ∷ ys) zero (suc j) x n = refl
get-set-other (y ∷ ys) (suc i) zero x n = refl
get-set-other (y ∷ ys) (suc i) (suc j) x n = get-set-other ys i j x (λ e. n (omega (arith, e)))

pub length-set : {A : Type 0} (xs : List A) (i : ℕ) (x : A) → length (set xs i x) ≡ length xs
length-set [] i x = refl
length-set (y ∷ ys) zero x = refl
length-set (y ∷ ys) (suc i) x = let e : length (set ys i x) ≡ length ys = length-set ys i x in omega (arith, e)

pub noted : (p : CoreProgram) (order : List ClassId) (i : ℕ) (c : ClassId) (totals : List ℕ) → i < length order → get_or order i c ≡ c → AreTotals p (take i order) totals → AreTotals p (take (i + 1) order) (set totals c.0 (total_of p c))
noted p order i c totals l e t = record {
  count = length-set totals c.0 (total_of p c) ∙ t.count;
  each = λ k q m. by k m (nat_eq k.0 c.0) refl (in-either (take i order) (subst (λ xs. In xs k) (take_more order i c l ∙ ap (λ x. take i order ++ x ∷ []) e) q));
}
  where
    one : (k : ClassId) → k.0 ≡ c.0 → k.0 < length p.classes → known (set totals c.0 (total_of p c)) k ≡ total_of p k
    one k s m = let same : k ≡ c = one_class k c s in subst (λ x. known (set totals c.0 (total_of p c)) x ≡ total_of p x) (sym same)
        (ap (λ o. unwrap_or o 0) (get-set totals c.0 (total_of p c) (let n = t.count in omega (arith, n, m, s))))

    here : (k : ClassId) → In (c ∷ []) k → k.0 ≡ c.0
    here k first = refl
    here k (further q) = elim q [ ]

    by : (k : ClassId) → k.0 < length p.classes → (b : Bool) → nat_eq k.0 c.0 ≡ b → In (take i order) k ⊎ In (c ∷ []) k → known (set totals c.0 (total_of p c)) k ≡ total_of p k
    by k m true s q = one k (let z : k.0 ≡ c.0 = grind (arith, nat_tests) in z) m
    by k m false s (inr q) = one k (here k q) m
    by k m false s (inl q) = ap (λ o. unwrap_or o 0) (get-set-other totals c.0 k.0 (total_of p c) (λ z. absurd (let y : nat_eq k.0 c.0 ≡ true = grind (arith, nat_tests) in let x : true ≡ false = sym y ∙ s in cc))) ∙ t.each k q m

-- ---- counting

pub count-next : (fs : List CoreField) (i : ℕ) (f : CoreField) → slice_get fs i ≡ Some f → count_by is_instance (take (i + 1) fs) ≡ count_by is_instance (take i fs) + (if f.is_static then 0 else 1)
count-next fs i f e = by f.is_static refl
  where
    read : get_or fs i f ≡ f
    read = get_or_from_slice_get fs i f f e

    by : (b : Bool) → f.is_static ≡ b → count_by is_instance (take (i + 1) fs) ≡ count_by is_instance (take i fs) + (if b then 0 else 1)
    by true q = let n : count_by is_instance (take (i + 1) fs) ≡ count_by is_instance (take i fs) = count_by_more_no is_instance fs i f (slice_get_within fs i f e) (ap is_instance read ∙ ap (λ b. if b then false else true) q) in omega (arith, n)
    by false q = count_by_more_yes is_instance fs i f (slice_get_within fs i f e) (ap is_instance read ∙ ap (λ b. if b then false else true) q)

pub counted-more : (fs : List CoreField) (counts : List ℕ) (i : ℕ) → length counts ≡ i → ((at : ℕ) → at < i → slice_get counts at ≡ Some (count_by is_instance (take at fs))) →
    (at : ℕ) → at < i + 1 → slice_get (counts ++ count_by is_instance (take i fs) ∷ []) at ≡ Some (count_by is_instance (take at fs))
counted-more fs counts i n f at l = by (cases_lt at i)
  where
    by : (at < i) ⊎ (i ≤ at) → slice_get (counts ++ count_by is_instance (take i fs) ∷ []) at ≡ Some (count_by is_instance (take at fs))
    by (inl b) = get-old counts (count_by is_instance (take i fs)) at (omega (arith, b, n)) ∙ f at b
    by (inr b) = let s : at ≡ length counts = omega (arith, b, l, n) in let t : i ≡ at = omega (arith, b, l) in
        ap (slice_get (counts ++ count_by is_instance (take i fs) ∷ [])) s ∙ get-new counts (count_by is_instance (take i fs)) ∙ ap (λ j. Some (count_by is_instance (take j fs))) t
