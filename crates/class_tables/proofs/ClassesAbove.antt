-- The classes at or above a class are those of a class above it, and those that are reached past none of these.
use Rattle.std.proofs.Common.{◌≡◌, ℕ, zero, suc, ◌+◌, ◌<◌, ◌≤◌, ◌^◌, ◌++◌, List, [], ◌∷◌, length, set, take, get_or, Option, Some, None, refl, sym, ap, ◌∙◌, subst, arith, inl, inr}
use Rattle.std.specs.Prelude.{Bool, true, false, not, ◌⊎◌, ◌||◌, filter, is_some, slice_get, unwrap_or, nat_eq, nat_lt, if◌then◌else◌}
use Rattle.std.specs.List.{Contains}
use Rattle.std.proofs.lemmas.Bool.{cases_lt}
use Rattle.std.proofs.lemmas.Bool.Decides.{nat_tests}
use Rattle.std.proofs.lemmas.List.{take_more}
use Rattle.std.proofs.lemmas.Option.{slice_get_past}
use Rattle.je_core.specs.declared.types.ClassId.{ClassId}
use Rattle.je_core.specs.Core.{CoreProgram}
use Rattle.je_classes.specs.Hierarchy.{class_at, supers_of, same_class, is_below, Below, same, above}
use Rattle.je_classes.specs.Members.{In, first, further}
use Rattle.je_classes.specs.way.Reaching.{has}
use Rattle.je_classes.proofs.Below.{same_class-equal, below-to, below-from, below-itself, or_true}
use Rattle.je_classes.proofs.Lists.{bool_cases, contains-here, contains-later, contains-cases}
use Rattle.je_classes.proofs.Paths.{supers-within}
use Rattle.je_classes.proofs.Sets.{by_either, in-either}
use Rattle.class_lookup.specs.way.Walk.{reached_by}
use Rattle.class_lookup.proofs.Above.{same-test}
use Rattle.class_lookup.proofs.Walking.{Leads, stays, goes, further as further-on, sound, there, complete}
use Rattle.number_maps.specs.Maps.{Family, family, IsMap, IsEmpty, Keeps}
use Rattle.class_tables.specs.declared.subclasses.SubclassTable.{SubclassTable}
use Rattle.class_tables.specs.SubclassTables.{AreSupersThere, IsSubclassTableOf}
use Rattle.class_tables.specs.way.Above.{Has, is_key, is_beyond, next_beyond, HasEach, IsExact, IsKnown, AreKnown}
use Rattle.class_tables.specs.way.Order.{first_in, first_super, IsWhole}
use Rattle.class_tables.specs.way.Slots.{known, known_above}
use Rattle.class_tables.proofs.Totals.{get-set, get-set-other, length-set}

-- ---- lists

kept : (test : ClassId → Bool) (xs : List ClassId) (y : ClassId) → Contains xs y → test y ≡ true → Contains (filter test xs) y
kept test [] y q e = q
kept test (x ∷ xs) y q e = bool_cases (λ b. test x ≡ b → Contains (if b then x ∷ filter test xs else filter test xs) y) (test x)
    (λ _ t. by_either (λ s. subst (λ (z : ClassId). Contains (x ∷ filter test xs) z) s (contains-here x (filter test xs))) (λ r. contains-later x y (filter test xs) (kept test xs y r e)) (contains-cases x y xs q))
    (λ _ t. by_either (λ s. absurd (let u : test x ≡ true = ap test s ∙ e in let v : true ≡ false = sym u ∙ t in cc)) (λ r. kept test xs y r e) (contains-cases x y xs q)) refl

from-kept : (test : ClassId → Bool) (xs : List ClassId) (y : ClassId) → Contains (filter test xs) y → Contains xs y × (test y ≡ true)
from-kept test [] y q = absurd (let l : q.0 < 0 = q.1 in omega arith)
from-kept test (x ∷ xs) y q = bool_cases (λ b. test x ≡ b → Contains (if b then x ∷ filter test xs else filter test xs) y → Contains (x ∷ xs) y × (test y ≡ true)) (test x)
    (λ _ t r. by_either (λ s. (subst (λ (z : ClassId). Contains (x ∷ xs) z) s (contains-here x xs), subst (λ (z : ClassId). test z ≡ true) s t))
    (λ k. let m = from-kept test xs y k in (contains-later x y xs m.0, m.1)) (contains-cases x y (filter test xs) r))
    (λ _ t r. let m = from-kept test xs y r in (contains-later x y xs m.0, m.1)) refl q

-- ---- maps that stay

keys-stay : (f g : Family) → Keeps f g → (m : ℕ) → IsMap f m → (d : ClassId) → is_key g m d ≡ is_key f m d
keys-stay f g k m t d = ap is_some (k.same m d.0 t)

exact-stays : (p : CoreProgram) (f g : Family) → Keeps f g → (c : ClassId) (m : ℕ) → IsExact p f c m → IsExact p g c m
exact-stays p f g k c m e = record { there = k.there m e.there; each = λ d l. keys-stay f g k m e.there d ∙ e.each d l }

empty-stays : (f g : Family) → Keeps f g → (m : ℕ) → IsEmpty f m → IsEmpty g m
empty-stays f g k m e = record { there = k.there m e.there; nothing = λ key. k.same m key e.there ∙ e.nothing key }

-- ---- what is reached past a map

data IsBase (p : CoreProgram) (f : Family) (class : ClassId) (base : ℕ) : Type 0 where
  nothing_known : IsEmpty f base → IsBase p f class base
  of_super : {s : ClassId} → Contains (supers_of p class) s → IsExact p f s base → IsBase p f class base

below-on : (p : CoreProgram) {a b c : ClassId} → Below p a b → Below p b c → Below p a c
below-on p same r = r
below-on p (above q s) r = above q (below-on p s r)

-- the first class of a way is there, where its last is
begins-there : (p : CoreProgram) {c d : ClassId} → Below p c d → d.0 < length p.classes → c.0 < length p.classes
begins-there p same l = l
begins-there p (above {c = c} {e = e} q r) l = supers-within p c e (class_at p c) refl q

module _ (p : CoreProgram) (f : Family) (class : ClassId) (base : ℕ) where
  abbrev n : ℕ
  n = length p.classes

  below-by : {c d : ClassId} → Leads (next_beyond p f base) c d → Below p c d
  below-by stays = same
  below-by (goes {c = c} {e = e} q r) = above (from-kept (is_beyond f base) (supers_of p c) e q).0 (below-by r)

  inside : (c e : ClassId) → Contains (next_beyond p f base c) e → nat_lt c.0 n ≡ true
  inside c e q = let l : c.0 < n = supers-within p c e (class_at p c) refl (from-kept (is_beyond f base) (supers_of p c) e q).0 in grind (arith, nat_tests)

  base-sound : IsBase p f class base → (d : ClassId) → d.0 < n → is_key f base d ≡ true → is_below p class d ≡ true
  base-sound (nothing_known e) d l h = absurd (let u : is_key f base d ≡ false = ap is_some (e.nothing d.0) in let v : true ≡ false = sym h ∙ u in cc)
  base-sound (of_super {s = s} q x) d l h = below-from p (above q (below-to p s d (sym (x.each d l) ∙ h)))

  base-closed : IsBase p f class base → (c d : ClassId) → c.0 < n → d.0 < n → is_key f base c ≡ true → Below p c d → is_key f base d ≡ true
  base-closed (nothing_known e) c d m l h r = absurd (let u : is_key f base c ≡ false = ap is_some (e.nothing c.0) in let v : true ≡ false = sym h ∙ u in cc)
  base-closed (of_super {s = s} q x) c d m l h r = x.each d l ∙ below-from p (below-on p (below-to p s c (sym (x.each c m) ∙ h)) r)

  comes : IsBase p f class base → {c d : ClassId} → Leads (next_beyond p f base) class c → Below p c d → d.0 < n → (is_key f base d ≡ true) ⊎ Leads (next_beyond p f base) class d
  comes b w same l = inr w
  comes b {c = c} {d = d} w (above {e = e} q r) l = bool_cases (λ k. is_key f base e ≡ k → (is_key f base d ≡ true) ⊎ Leads (next_beyond p f base) class d) (is_key f base e)
      (λ _ k. inl (base-closed b e d (begins-there p r l) l k r))
      (λ _ k. comes b (further-on (next_beyond p f base) w (kept (is_beyond f base) (supers_of p c) e q (ap not k))) r l) refl

  exact : (g : Family) (made : ℕ) → n < 2 ^ 31 → IsBase p f class base → HasEach f g base (reached_by (next_beyond p f base) n class) made → IsExact p g class made
  exact g made few b h = record { there = h.there; each = λ d l. same-test (is_key g made d) (is_below p class d) (to d l) (from d l) }
    where
      key : (d : ClassId) → d.0 < n → is_key g made d ≡ (is_key f base d || has (reached_by (next_beyond p f base) n class) d)
      key d l = h.each d (omega (arith, l, few))

      to : (d : ClassId) → d.0 < n → is_key g made d ≡ true → is_below p class d ≡ true
      to d l e = bool_cases (λ k. is_key f base d ≡ k → (k || has (reached_by (next_beyond p f base) n class) d) ≡ true → is_below p class d ≡ true) (is_key f base d)
          (λ _ k _. base-sound b d l k)
          (λ _ k r. below-from p (below-by (sound (next_beyond p f base) n class d r))) refl (sym (key d l) ∙ e)

      from : (d : ClassId) → d.0 < n → is_below p class d ≡ true → is_key g made d ≡ true
      from d l e = key d l ∙ by_either
          (λ k. ap (λ x. x || has (reached_by (next_beyond p f base) n class) d) k)
          (λ w. or_true (is_key f base d) (has (reached_by (next_beyond p f base) n class) d) (complete (next_beyond p f base) n class inside d w (let m : nat_lt d.0 n ≡ true = grind (arith, nat_tests) in m)))
          (comes b stays (below-to p class d e) l)

  -- what is reached is there
  pub reached-few : n < 2 ^ 31 → (c : ClassId) → Has (reached_by (next_beyond p f base) n class) c → c.0 < 2 ^ 31
  reached-few few c h = let m : nat_lt c.0 n ≡ true = there (next_beyond p f base) n class c h in let l : c.0 < n = grind (arith, nat_tests) in omega (arith, l, few)

-- ---- what is known of the first class above

first-contains : (xs : List ClassId) (s : ClassId) → first_in xs ≡ Some s → Contains xs s
first-contains [] s e = absurd cc
first-contains (x ∷ xs) s e = let q : x ≡ s = cc in subst (λ (z : ClassId). Contains (x ∷ xs) z) q (contains-here x xs)

base-of : (p : CoreProgram) (table : SubclassTable) (class : ClassId) → AreKnown p table → IsBase p (family table.maps) class (known_above table.above.items (first_super p class))
base-of p table class a = by (first_super p class) refl
  where
    over : (s : ClassId) → Contains (supers_of p class) s → (s.0 < length p.classes) ⊎ (length p.classes ≤ s.0) → IsBase p (family table.maps) class (known table.above.items s)
    over s q (inl l) = by_either (λ e. nothing_known e) (λ x. of_super q x) (a.each s l)
    over s q (inr l) = subst (IsBase p (family table.maps) class) (sym (ap (λ o. unwrap_or o 0) (slice_get_past table.above.items s.0 (let k = a.count in omega (arith, k, l))))) (nothing_known a.empty)

    by : (o : Option ClassId) → first_super p class ≡ o → IsBase p (family table.maps) class (known_above table.above.items o)
    by None e = nothing_known a.empty
    by (Some s) e = over s (first-contains (supers_of p class) s e) (cases_lt s.0 (length p.classes))

-- what a class's map has once it is extended
pub extended-exact : (p : CoreProgram) (old : SubclassTable) (g : Family) (class : ClassId) (base made : ℕ) (beyond : List ClassId) → length p.classes < 2 ^ 31 → AreKnown p old →
    base ≡ known_above old.above.items (first_super p class) → beyond ≡ reached_by (next_beyond p (family old.maps) base) (length p.classes) class → HasEach (family old.maps) g base beyond made → IsExact p g class made
extended-exact p old g class base made beyond few a e q h =
    exact p (family old.maps) class base g made few (subst (IsBase p (family old.maps) class) (sym e) (base-of p old class a)) (subst (λ xs. HasEach (family old.maps) g base xs made) q h)

-- ---- noting one class more

module _ (p : CoreProgram) (old new : SubclassTable) (class : ClassId) (made : ℕ) (a : AreKnown p old) (k : Keeps (family old.maps) (family new.maps)) (x : IsExact p (family new.maps) class made) (e : new.above.items ≡ set old.above.items class.0 made) where
  one-class : (c : ClassId) → c.0 ≡ class.0 → class ≡ c
  one-class c q = let s : same_class class c ≡ true = grind (arith, nat_tests) in same_class-equal class c s

  noted-here : (c : ClassId) → c.0 < length p.classes → c.0 ≡ class.0 → IsExact p (family new.maps) c (known new.above.items c)
  noted-here c l q = subst (λ (z : ClassId). IsExact p (family new.maps) z (known new.above.items z)) (one-class c q)
      (subst (IsExact p (family new.maps) class) (sym (ap (λ xs. unwrap_or (slice_get xs class.0) 0) e ∙ ap (λ o. unwrap_or o 0) (get-set old.above.items class.0 made (let n = a.count in omega (arith, n, l, q))))) x)

  noted-other : (c : ClassId) → ¬ c.0 ≡ class.0 → known old.above.items c ≡ known new.above.items c
  noted-other c q = sym (ap (λ xs. unwrap_or (slice_get xs c.0) 0) e ∙ ap (λ o. unwrap_or o 0) (get-set-other old.above.items class.0 c.0 made q))

  each-known : (c : ClassId) → c.0 < length p.classes → (b : Bool) → nat_eq c.0 class.0 ≡ b → IsEmpty (family new.maps) (known new.above.items c) ⊎ IsExact p (family new.maps) c (known new.above.items c)
  each-known c l true q = inr (noted-here c l (let z : c.0 ≡ class.0 = grind (arith, nat_tests) in z))
  each-known c l false q = let s = noted-other c (let z : ¬ c.0 ≡ class.0 = grind (arith, nat_tests) in z) in
      by_either (λ y. inl (subst (IsEmpty (family new.maps)) s (empty-stays (family old.maps) (family new.maps) k (known old.above.items c) y)))
      (λ y. inr (subst (IsExact p (family new.maps) c) s (exact-stays p (family old.maps) (family new.maps) k c (known old.above.items c) y))) (a.each c l)

  pub known-after : AreKnown p new
  known-after = record {
    bits = k.bits ∙ a.bits;
    count = ap length e ∙ length-set old.above.items class.0 made ∙ a.count;
    empty = empty-stays (family old.maps) (family new.maps) k 0 a.empty;
    each = λ c l. each-known c l (nat_eq c.0 class.0) refl;
  }

  pub own-after : IsKnown p new class
  own-after l = noted-here class l refl

  pub others-after : (c : ClassId) → IsKnown p old c → IsKnown p new c
  others-after c h l = by (nat_eq c.0 class.0) refl
    where
      by : (b : Bool) → nat_eq c.0 class.0 ≡ b → IsExact p (family new.maps) c (known new.above.items c)
      by true q = noted-here c l (let z : c.0 ≡ class.0 = grind (arith, nat_tests) in z)
      by false q = subst (IsExact p (family new.maps) c) (noted-other c (let z : ¬ c.0 ≡ class.0 = grind (arith, nat_tests) in z)) (exact-stays p (family old.maps) (family new.maps) k c (known old.above.items c) (h l))

-- ---- the whole table

pub whole : (p : CoreProgram) (table : SubclassTable) (order : List ClassId) → AreSupersThere p → IsWhole p order → ((c : ClassId) → In order c → IsKnown p table c) → IsSubclassTableOf p table
whole p table order t w h = record { there = t; each = λ c d l m. (h c (w.each c l) l).each d m }

only-one : (c k : ClassId) → In (c ∷ []) k → c ≡ k
only-one c k first = refl
only-one c k (further q) = elim q [ ]

pub known-next : (p : CoreProgram) (table : SubclassTable) (order : List ClassId) (i : ℕ) (class : ClassId) → i < length order → get_or order i class ≡ class → ((c : ClassId) → In (take i order) c → IsKnown p table c) → IsKnown p table class →
    (c : ClassId) → In (take (i + 1) order) c → IsKnown p table c
known-next p table order i class l e f h c q = by_either (f c) (λ r. subst (IsKnown p table) (only-one class c r) h)
    (in-either (take i order) (subst (λ xs. In xs c) (take_more order i class l ∙ ap (λ x. take i order ++ x ∷ []) e) q))

-- ---- asking it

module _ (p : CoreProgram) (table : SubclassTable) (t : IsSubclassTableOf p table) where
  pub is_itself : (c d : ClassId) → c.0 ≡ d.0 → true ≡ is_below p c d
  is_itself c d e = let s : same_class c d ≡ true = grind (arith, nat_tests) in subst (λ (z : ClassId). true ≡ is_below p c z) (same_class-equal c d s) (sym (below-itself p c))

  ends-there : {c d : ClassId} → Below p c d → ¬ c.0 ≡ d.0 → (c.0 < length p.classes) × (d.0 < length p.classes)
  ends-there {c = c} same n = absurd (n refl)
  ends-there {c = c} {d = d} (above {e = e} q r) n = (supers-within p c e (class_at p c) refl q, by (nat_eq e.0 d.0) refl (λ m. (ends-there r m).1))
    where
      by : (b : Bool) → nat_eq e.0 d.0 ≡ b → (¬ e.0 ≡ d.0 → d.0 < length p.classes) → d.0 < length p.classes
      by true s more = let z : e.0 ≡ d.0 = grind (arith, nat_tests) in let l : e.0 < length p.classes = t.there c e q in omega (arith, z, l)
      by false s more = more (let z : ¬ e.0 ≡ d.0 = grind (arith, nat_tests) in z)

  nowhere : (c d : ClassId) → ¬ c.0 ≡ d.0 → ((c.0 < length p.classes) → (d.0 < length p.classes) → ⊥) → false ≡ is_below p c d
  nowhere c d n f = bool_cases (λ b. is_below p c d ≡ b → false ≡ b) (is_below p c d) (λ _ e. absurd (let r = ends-there (below-to p c d e) n in f r.0 r.1)) (λ _ e. refl) refl

  pub not_there : (c d : ClassId) → ¬ c.0 ≡ d.0 → length p.classes ≤ c.0 → false ≡ is_below p c d
  not_there c d n l = nowhere c d n (λ x y. let z : ⊥ = omega (arith, l, x) in z)

  pub above_not_there : (c d : ClassId) → ¬ c.0 ≡ d.0 → length p.classes ≤ d.0 → false ≡ is_below p c d
  above_not_there c d n l = nowhere c d n (λ x y. let z : ⊥ = omega (arith, l, y) in z)
