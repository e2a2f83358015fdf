-- The candidates that are come by are those that the class has, and what is chosen among them is what is found.
use Rattle.std.proofs.Common.{◌≡◌, ℕ, zero, suc, ◌+◌, ◌<◌, List, [], ◌∷◌, ◌++◌, length, Option, Some, None, refl, sym, ap, ◌∙◌, subst, inl, inr, arith}
use Rattle.std.specs.Prelude.{Bool, true, false, not, ◌⊎◌, ◌&&◌, ◌||◌, filter, slice_get, nat_eq, nat_lt, if◌then◌else◌}
use Rattle.std.specs.List.{list_any, flat_map, Contains}
use Rattle.std.proofs.lemmas.Bool.Decides.{nat_tests}
use Rattle.std.proofs.lemmas.Option.{none-some, same_Some, slice_get_within}
use Rattle.je_base.specs.declared.span.NameId.{NameId}
use Rattle.je_core.specs.declared.types.ClassId.{ClassId}
use Rattle.je_core.specs.declared.types.Ty.{Ty}
use Rattle.je_core.specs.Core.{CoreMethod, CoreClass, CoreProgram}
use Rattle.je_classes.specs.Hierarchy.{class_at, supers_of, same_class, object_class, is_below, Below, same, above, IsAcyclic}
use Rattle.je_classes.specs.Members.{Member, same_name, methods_in, methods_of, method_of, names_constructors, Found, nothing, one, several, In, first, further}
use Rattle.je_classes.specs.Methods.{params_of, params_in, named_from, declared, is_top_interface, is_top_interface_in, is_private_in, is_inherited, is_interface, passes_on, HasMethod, own_method, from_above, from_object, accepts, all_pass, IsCandidate, IsBest, is_best, Counts, is_concrete, stands_before, IsChosen, none_fits, none_best, the_concrete, more_concrete, the_first, none_counts, chosen, find_method}
use Rattle.je_classes.specs.Subtypes.{same_types}
use Rattle.je_classes.specs.way.Reaching.{has}
use Rattle.je_classes.proofs.Below.{same_class-refl, same_class-equal, below-from}
use Rattle.je_classes.proofs.Lists.{bool_cases, contains-here, contains-later, contains-cases}
use Rattle.je_classes.proofs.MethodSets.{choice, methods_found}
use Rattle.je_classes.proofs.Paths.{supers-within}
use Rattle.je_classes.proofs.Reaching.{has-contained, contained}
use Rattle.je_classes.proofs.Sets.{in-filter, filter-in, in-left, in-right, in-either, flat-above, above-flat, by_either, all-in, in-all}
use Rattle.class_lookup.specs.Above.{AreAbove}
use Rattle.class_lookup.specs.way.Walk.{reached_by}
use Rattle.class_lookup.proofs.Walking.{Leads, stays, goes, sound, complete}
use Rattle.method_lookup.specs.way.Ways.{any_named, hands_on, object_if, unless, next_method, is_of_object, can_inherit_method, comes_to, has_way, is_candidate, candidates_of, candidates_in}

-- ---- Booleans

or-left : (a b : Bool) → a ≡ true → (a || b) ≡ true
or-left true b e = refl
or-left false b e = absurd cc

or-right : (a b : Bool) → b ≡ true → (a || b) ≡ true
or-right true b e = refl
or-right false b e = e

or-cases : (a b : Bool) → (a || b) ≡ true → (a ≡ true) ⊎ (b ≡ true)
or-cases true b e = inl refl
or-cases false b e = inr e

neither : (a b : Bool) → (a || b) ≡ false → (a ≡ false) × (b ≡ false)
neither true b e = absurd cc
neither false b e = (refl, e)

both : (a b : Bool) → a ≡ true → b ≡ true → (a && b) ≡ true
both true b e f = f
both false b e f = e

each : (a b : Bool) → (a && b) ≡ true → (a ≡ true) × (b ≡ true)
each true b e = (refl, e)
each false b e = absurd cc

is-false : (a : Bool) → not a ≡ true → a ≡ false
is-false true e = absurd cc
is-false false e = refl

is-not : (a : Bool) → a ≡ false → not a ≡ true
is-not true e = absurd cc
is-not false e = refl

-- ---- the methods of a name that a class declares

-- one of them, by its place
record Named (x : NameId) (c : ClassId) (n : ℕ) (ms : List CoreMethod) (m : Member) : Type 0 where
  class : m.class ≡ c
  place : ℕ
  at : m.at ≡ n + place
  method : CoreMethod
  there : slice_get ms place ≡ Some method

module _ (x : NameId) (c : ClassId) (n : ℕ) (k : CoreMethod) (ms : List CoreMethod) (m : Member) where
  named-later : Named x c (suc n) ms m → Named x c n (k ∷ ms) m
  named-later r = record { class = r.class; place = suc r.place; at = r.at ∙ (let z : suc n + r.place ≡ n + suc r.place = omega arith in z); method = r.method; there = r.there }

  named-here : (In (named_from c (suc n) ms x) m → Named x c (suc n) ms m) → (m' : Member) → m' ≡ m → In (record { class = c; at = n } ∷ named_from c (suc n) ms x) m' → Named x c n (k ∷ ms) m
  named-here more _ e first = record { class = ap (λ (z : Member). z.class) (sym e); place = 0; at = ap (λ (z : Member). z.at) (sym e) ∙ (let z : n ≡ n + 0 = omega arith in z); method = k; there = refl }
  named-here more m' e (further r) = named-later (more (subst (λ (z : Member). In (named_from c (suc n) ms x) z) e r))

named-in : (x : NameId) (c : ClassId) (n : ℕ) (ms : List CoreMethod) (m : Member) → In (named_from c n ms x) m → Named x c n ms m
named-in x c n [] m q = elim q [ ]
named-in x c n (k ∷ ms) m q = bool_cases (λ b. In (if b then record { class = c; at = n } ∷ named_from c (suc n) ms x else named_from c (suc n) ms x) m → Named x c n (k ∷ ms) m) (same_name k.name x)
    (λ _ r. named-here x c n k ms m (named-in x c (suc n) ms m) m refl r) (λ _ r. named-later x c n k ms m (named-in x c (suc n) ms m r)) q

-- ---- lists of classes

to-in : (xs : List ClassId) (y : ClassId) → Contains xs y → In xs y
to-in [] y q = absurd (let l : q.0 < 0 = q.1 in omega arith)
to-in (x ∷ xs) y q = by_either (λ e. subst (λ (z : ClassId). In (x ∷ xs) z) e first) (λ r. further (to-in xs y r)) (contains-cases x y xs q)

from-in : {xs : List ClassId} {y : ClassId} → In xs y → Contains xs y
from-in (first {x = x} {xs = xs}) = contains-here x xs
from-in (further {x = x} {y = y} {xs = xs} q) = contains-later x y xs (from-in q)

module _ (p : CoreProgram) (x : NameId) where
  abbrev n : ℕ
  n = length p.classes

  abbrev params-are : ClassId → List Ty → ℕ → List CoreMethod → Type 0
  params-are c ts k ms = (i : ℕ) (m : CoreMethod) → slice_get ms i ≡ Some m → params_of p (record { class = c; at = k + i }) ≡ m.params

  any-from : (c : ClassId) (ts : List Ty) (k : ℕ) (ms : List CoreMethod) → params-are c ts k ms → list_any (λ m. same_types (params_of p m) ts) (named_from c k ms x) ≡ any_named x ts ms
  any-from c ts k [] f = refl
  any-from c ts k (m ∷ ms) f =
      let next : params-are c ts (suc k) ms = λ i j e. let z : suc k + i ≡ k + suc i = omega arith in ap (λ (a : ℕ). params_of p (record { class = c; at = a })) z ∙ f (suc i) j e in
      let rest : list_any (λ m. same_types (params_of p m) ts) (named_from c (suc k) ms x) ≡ any_named x ts ms = any-from c ts (suc k) ms next in
      let here : params_of p (record { class = c; at = k }) ≡ m.params = let z : k ≡ k + 0 = omega arith in ap (λ (a : ℕ). params_of p (record { class = c; at = a })) z ∙ f 0 m refl in
      bool_cases (λ b. list_any (λ m. same_types (params_of p m) ts) (if b then record { class = c; at = k } ∷ named_from c (suc k) ms x else named_from c (suc k) ms x) ≡ ((b && same_types m.params ts) || any_named x ts ms)) (same_name m.name x)
      (λ _. λ i. same_types (here i) ts || rest i)
      (λ _. rest)

  any-is : (c : ClassId) (ts : List Ty) → list_any (λ m. same_types (params_of p m) ts) (declared p x c) ≡ any_named x ts (methods_of p c)
  any-is c ts = any-from c ts 0 (methods_of p c) (λ i m e. let z : 0 + i ≡ i = omega arith in ap (λ (a : ℕ). params_of p (record { class = c; at = a })) z ∙ ap params_in e)

  class-of : (c : ClassId) (m : Member) → In (declared p x c) m → m.class ≡ c
  class-of c m q = (named-in x c 0 (methods_of p c) m q).class

  declared-there : (c : ClassId) (m : Member) → In (declared p x c) m → c.0 < n
  declared-there c m q = let k = named-in x c 0 (methods_of p c) m q in by (class_at p c) refl k.place k.method k.there
    where
      by : (o : Option CoreClass) → class_at p c ≡ o → (i : ℕ) (j : CoreMethod) → slice_get (methods_in o) i ≡ Some j → c.0 < n
      by None e i j h = absurd (none-some j h)
      by (Some k) e i j h = slice_get_within p.classes c.0 k e

  -- the class of a method declares it
  declares : {c : ClassId} {m : Member} → HasMethod p x c m → In (declared p x m.class) m
  declares (own_method {c = c} {m = m} q) = subst (λ (d : ClassId). In (declared p x d) m) (sym (class-of c m q)) q
  declares (from_above q h e i) = declares h
  declares (from_object {m = m} t q i) = subst (λ (d : ClassId). In (declared p x d) m) (sym (class-of object_class m q)) q

  abbrev next : Member → ClassId → List ClassId
  next m = next_method p x (params_of p m) (is_of_object m)

  -- what is inherited may be, and is declared by none nearer
  record Inherits (c : ClassId) (m : Member) : Type 0 where
    can : can_inherit_method p x m ≡ true
    free : any_named x (params_of p m) (methods_of p c) ≡ false

  inherits : (c : ClassId) (m : Member) → is_inherited p x (declared p x c) m ≡ true → Inherits c m
  inherits c m e =
      let f = is-false (names_constructors p x || is_private_in (method_of p m) || list_any (λ k. same_types (params_of p k) (params_of p m)) (declared p x c)) e in
      let g = neither (names_constructors p x || is_private_in (method_of p m)) (list_any (λ k. same_types (params_of p k) (params_of p m)) (declared p x c)) f in
      record { can = is-not (names_constructors p x || is_private_in (method_of p m)) g.0; free = sym (any-is c (params_of p m)) ∙ g.1 }

  inherited-of : (c : ClassId) (m : Member) → Inherits c m → is_inherited p x (declared p x c) m ≡ true
  inherited-of c m k = is-not (names_constructors p x || is_private_in (method_of p m) || list_any (λ j. same_types (params_of p j) (params_of p m)) (declared p x c))
      (let a = is-false (names_constructors p x || is_private_in (method_of p m)) k.can in let b = any-is c (params_of p m) ∙ k.free in λ i. a i || b i)

  -- ---- steps

  abbrev ways : ClassId → Member → List ClassId
  ways c m = filter (hands_on p (is_of_object m) c) (supers_of p c) ++ object_if (is_top_interface p c && is_of_object m)

  ways-of : (c d : ClassId) (m : Member) → Inherits c m → In (ways c m) d → Contains (next m c) d
  ways-of c d m k q = subst (λ b. Contains (unless b (ways c m)) d) (sym k.free) (from-in q)

  by-super : (c d : ClassId) (m : Member) → Inherits c m → Contains (supers_of p c) d → passes_on p c d m ≡ true → Contains (next m c) d
  by-super c d m k q e = ways-of c d m k (in-left (object_if (is_top_interface p c && is_of_object m)) (in-filter (hands_on p (is_of_object m) c) (to-in (supers_of p c) d q) e))

  by-object : (c : ClassId) (m : Member) → Inherits c m → is_top_interface p c ≡ true → is_of_object m ≡ true → Contains (next m c) object_class
  by-object c m k t o = ways-of c object_class m k (in-right (filter (hands_on p (is_of_object m) c) (supers_of p c)) (subst (λ b. In (object_if b) object_class) (sym (both (is_top_interface p c) (is_of_object m) t o)) first))

  data Step (c d : ClassId) (m : Member) : Type 0 where
    to_super : Contains (supers_of p c) d → passes_on p c d m ≡ true → Step c d m
    to_object : is_top_interface p c ≡ true → is_of_object m ≡ true → d ≡ object_class → Step c d m

  only-object : (b : Bool) (d : ClassId) → In (object_if b) d → (b ≡ true) × (d ≡ object_class)
  only-object true d q = (refl, only d refl q)
    where
      only : (e : ClassId) → e ≡ d → In (object_class ∷ []) e → d ≡ object_class
      only _ h first = sym h
      only e h (further r) = elim r [ ]
  only-object false d q = elim q [ ]

  free-of : (c d : ClassId) (m : Member) → Contains (next m c) d → any_named x (params_of p m) (methods_of p c) ≡ false
  free-of c d m q = bool_cases (λ b. any_named x (params_of p m) (methods_of p c) ≡ b → b ≡ false) (any_named x (params_of p m) (methods_of p c))
      (λ _ e. absurd (let r = subst (λ b. Contains (unless b (ways c m)) d) e q in let l : r.0 < 0 = r.1 in omega arith))
      (λ _ e. refl) refl

  step-of : (c d : ClassId) (m : Member) → Contains (next m c) d → Step c d m
  step-of c d m q =
      let r = to-in (ways c m) d (subst (λ b. Contains (unless b (ways c m)) d) (free-of c d m q) q) in
      by_either
      (λ s. let k = filter-in (hands_on p (is_of_object m) c) (supers_of p c) d s in to_super (from-in k.there) k.passes)
      (λ s. let k = only-object (is_top_interface p c && is_of_object m) d s in let e = each (is_top_interface p c) (is_of_object m) k.0 in to_object e.0 e.1 k.1)
      (in-either (filter (hands_on p (is_of_object m) c) (supers_of p c)) r)

  -- ---- what a class has comes to it

  data Comes (c : ClassId) (m : Member) : Type 0 where
    its_own : m.class ≡ c → Comes c m
    along : can_inherit_method p x m ≡ true → Leads (next m) c m.class → Comes c m

  led : {d : ClassId} {m : Member} → Comes d m → Leads (next m) d m.class
  led {d = d} {m = m} (its_own e) = subst (λ (k : ClassId). Leads (next m) k m.class) e stays
  led (along c q) = q

  comes : {c : ClassId} {m : Member} → HasMethod p x c m → Comes c m
  comes (own_method {c = c} {m = m} q) = its_own (class-of c m q)
  comes (from_above {c = c} {d = d} {m = m} q h e i) = let k = inherits c m i in along k.can (goes (by-super c d m k q e) (led (comes h)))
  comes (from_object {c = c} {m = m} t q i) =
      let k = inherits c m i in
      let s = class-of object_class m q in
      let o : is_of_object m ≡ true = subst (λ (d : ClassId). same_class d object_class ≡ true) (sym s) (same_class-refl object_class) in
      along k.can (goes (by-object c m k t o) (subst (λ (d : ClassId). Leads (next m) d m.class) s stays))

  has-along : (m : Member) {c e : ClassId} → can_inherit_method p x m ≡ true → In (declared p x m.class) m → Leads (next m) c e → e ≡ m.class → HasMethod p x c m
  has-along m can q (stays {c = c}) s = own_method (subst (λ (d : ClassId). In (declared p x d) m) (sym s) q)
  has-along m can q (goes {c = c} {e = d} r w) s = by (has-along m can q w s) (step-of c d m r)
    where
      by : HasMethod p x d m → Step c d m → HasMethod p x c m
      by h (to_super t e) = from_above t h e (inherited-of c m (record { can = can; free = free-of c d m r }))
      by h (to_object t o e) = from_object t (subst (λ (k : ClassId). In (declared p x k) m) (same_class-equal m.class object_class o) q) (inherited-of c m (record { can = can; free = free-of c d m r }))

  inside : (m : Member) (c d : ClassId) → Contains (next m c) d → nat_lt c.0 n ≡ true
  inside m c d q = by (step-of c d m q)
    where
      top-there : (o : Option CoreClass) → class_at p c ≡ o → is_top_interface_in o ≡ true → c.0 < n
      top-there None e h = absurd cc
      top-there (Some k) e h = slice_get_within p.classes c.0 k e

      by : Step c d m → nat_lt c.0 n ≡ true
      by (to_super t e) = let l : c.0 < n = supers-within p c d (class_at p c) refl t in grind (arith, nat_tests)
      by (to_object t o e) = let l : c.0 < n = top-there (class_at p c) refl t in grind (arith, nat_tests)

  -- ---- the test of it

  way-of : (c : ClassId) (m : Member) → In (declared p x m.class) m → Comes c m → has_way p c x m ≡ true
  way-of c m q (its_own e) = or-left (same_class m.class c) (can_inherit_method p x m && comes_to p c x m) (subst (λ (d : ClassId). same_class m.class d ≡ true) e (same_class-refl m.class))
  way-of c m q (along can w) = or-right (same_class m.class c) (can_inherit_method p x m && comes_to p c x m)
      (both (can_inherit_method p x m) (comes_to p c x m) can
      (let l : m.class.0 < n = declared-there m.class m q in complete (next m) n c (inside m) m.class w (grind (arith, nat_tests))))

  has-by : (c : ClassId) (m : Member) → In (declared p x m.class) m → has_way p c x m ≡ true → HasMethod p x c m
  has-by c m q e = by_either
      (λ s. own_method (subst (λ (d : ClassId). In (declared p x d) m) (same_class-equal m.class c s) q))
      (λ s. let k = each (can_inherit_method p x m) (comes_to p c x m) s in has-along m k.0 q (sound (next m) n c m.class k.1) refl)
      (or-cases (same_class m.class c) (can_inherit_method p x m && comes_to p c x m) e)

  -- ---- the candidates

  module _ (c : ClassId) (types : List Ty) (ds : List ClassId) (a : AreAbove p c ds) where
    abbrev found : List Member
    found = candidates_in p c x types ds ++ candidates_of p c x types object_class

    of-class : (d : ClassId) (m : Member) → In (candidates_of p c x types d) m → IsCandidate p c x types m
    of-class d m q =
        let r = filter-in (is_candidate p c x types) (declared p x d) m q in
        let k = each (accepts p types m) (has_way p c x m) r.passes in
        (has-by c m (subst (λ (e : ClassId). In (declared p x e) m) (sym (class-of d m r.there)) r.there) k.1, k.0)

    pub to : (m : Member) → In found m → IsCandidate p c x types m
    to m q = by_either (λ r. let k = flat-above (candidates_of p c x types) ds m r in of-class k.class m k.has) (λ r. of-class object_class m r) (in-either (candidates_in p c x types ds) q)

    below-by : (m : Member) {b e : ClassId} → is_of_object m ≡ false → Leads (next m) b e → Below p b e
    below-by m o stays = same
    below-by m o (goes {c = b} {d = e} {e = d} q r) = by (below-by m o r) (step-of b d m q)
      where
        by : Below p d e → Step b d m → Below p b e
        by h (to_super t i) = above t h
        by h (to_object t i j) = absurd cc

    pub of : (m : Member) → IsCandidate p c x types m → In found m
    of m k =
        let q = declares k.0 in
        let w = comes k.0 in
        let passes : is_candidate p c x types m ≡ true = both (accepts p types m) (has_way p c x m) k.1 (way-of c m q w) in
        let there : In (candidates_of p c x types m.class) m = in-filter (is_candidate p c x types) q passes in
        bool_cases (λ b. is_of_object m ≡ b → In found m) (is_of_object m)
        (λ _ o. in-right (candidates_in p c x types ds) (subst (λ (d : ClassId). In (candidates_of p c x types d) m) (same_class-equal m.class object_class o) there))
        (λ _ o. in-left (candidates_of p c x types object_class)
        (let l : m.class.0 < n = declared-there m.class m q in
        let small : nat_lt m.class.0 n ≡ true = grind (arith, nat_tests) in
        let below : is_below p c m.class ≡ true = below-from p (below-by m o (led w)) in
        above-flat (candidates_of p c x types) ds m m.class (contained ds m.class (a.each m.class ∙ both (nat_lt m.class.0 n) (is_below p c m.class) small below)) there)) refl

    pub is_chosen : IsChosen p (IsCandidate p c x types) (IsBest p (IsCandidate p c x types)) (chosen p found)
    is_chosen = choice p (IsCandidate p c x types) found (filter (is_best p found) found) to of
        (λ m q. let r = filter-in (is_best p found) found m q in record { candidate = to m r.there; specific = λ k s. all-in (λ j. all_pass p (params_of p m) (params_of p j)) found r.passes k (of k s) })
        (λ m b. in-filter (is_best p found) (of m b.candidate) (in-all (λ k. all_pass p (params_of p m) (params_of p k)) found (λ k q. b.specific k (to k q))))

-- ---- the choice is one

contradict : {b : Bool} → b ≡ true → b ≡ false → ⊥
contradict {b = true} e f = cc
contradict {b = false} e f = cc

not-before : (k l : Member) → stands_before k l ≡ false → stands_before l k ≡ false → k ≡ l
not-before k l e f = grind (arith, nat_tests)

module _ {p : CoreProgram} {P B : Member → Type 0} (best : (m : Member) → B m → P m) where
  pub one_choice : {f g : Found} → IsChosen p P B f → IsChosen p P B g → f ≡ g
  one_choice (none_fits a) (none_fits b) = refl
  one_choice (none_fits a) (none_best {m = m} q b) = absurd (a m q)
  one_choice (none_fits a) (the_concrete {m = m} q e u) = absurd (a m (best m q))
  one_choice (none_fits a) (more_concrete {m = m} q e r f d) = absurd (a m (best m q))
  one_choice (none_fits a) (the_first {m = m} e k u) = absurd (a m (best m k.best))
  one_choice (none_fits a) (none_counts {m = m} q e u) = absurd (a m (best m q))
  one_choice (none_best {m = m} q b) (none_fits a) = absurd (a m q)
  one_choice (none_best q b) (none_best r c) = refl
  one_choice (none_best q b) (the_concrete {m = m} r e u) = absurd (b m r)
  one_choice (none_best q b) (more_concrete r e s f d) = refl
  one_choice (none_best q b) (the_first {m = m} e k u) = absurd (b m k.best)
  one_choice (none_best q b) (none_counts r e u) = refl
  one_choice (the_concrete {m = m} q e u) (none_fits a) = absurd (a m (best m q))
  one_choice (the_concrete {m = m} q e u) (none_best r b) = absurd (b m q)
  one_choice (the_concrete {m = m} q e u) (the_concrete {m = k} r f v) = ap one (v m q e)
  one_choice (the_concrete {m = m} q e u) (more_concrete {m = k} {n = l} r f s g d) = absurd (d (u k r f ∙ sym (u l s g)))
  one_choice (the_concrete {m = m} q e u) (the_first f k v) = absurd (contradict e (f m q))
  one_choice (the_concrete {m = m} q e u) (none_counts r f v) = absurd (contradict e (f m q))
  one_choice (more_concrete {m = m} q e r f d) (none_fits a) = absurd (a m (best m q))
  one_choice (more_concrete q e r f d) (none_best s b) = refl
  one_choice (more_concrete {m = k} {n = l} r f s g d) (the_concrete {m = m} q e u) = absurd (d (u k r f ∙ sym (u l s g)))
  one_choice (more_concrete q e r f d) (more_concrete s g t h c) = refl
  one_choice (more_concrete {m = m} q e r f d) (the_first g k v) = absurd (contradict e (g m q))
  one_choice (more_concrete q e r f d) (none_counts s g v) = refl
  one_choice (the_first {m = m} e k u) (none_fits a) = absurd (a m (best m k.best))
  one_choice (the_first {m = m} e k u) (none_best q b) = absurd (b m k.best)
  one_choice (the_first e k u) (the_concrete {m = m} q f v) = absurd (contradict f (e m q))
  one_choice (the_first e k u) (more_concrete {m = m} q f r g d) = absurd (contradict f (e m q))
  one_choice (the_first {m = m} e k u) (the_first {m = l} f j v) = ap one (not-before m l (v m k) (u l j))
  one_choice (the_first {m = m} e k u) (none_counts q f v) = absurd (v m k)
  one_choice (none_counts {m = m} q e u) (none_fits a) = absurd (a m (best m q))
  one_choice (none_counts q e u) (none_best r b) = refl
  one_choice (none_counts q e u) (the_concrete {m = m} r f v) = absurd (contradict f (e m r))
  one_choice (none_counts q e u) (more_concrete r f s g d) = refl
  one_choice (none_counts q e u) (the_first {m = m} f k v) = absurd (u m k)
  one_choice (none_counts q e u) (none_counts r f v) = refl

pub method_is : (p : CoreProgram) (x : NameId) (c : ClassId) (types : List Ty) (ds : List ClassId) → AreAbove p c ds → IsAcyclic p →
    chosen p (candidates_in p c x types ds ++ candidates_of p c x types object_class) ≡ find_method p c x types
method_is p x c types ds a acyclic = one_choice (λ m b. b.candidate) (is_chosen p x c types ds a) (methods_found p c x types acyclic)
