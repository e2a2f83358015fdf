-- Each class behind its first super.
use Rattle.std.proofs.Common.{◌≡◌, ℕ, zero, suc, ◌+◌, ◌<◌, ◌≤◌, ◌++◌, List, [], ◌∷◌, length, replicate, Option, Some, None, refl, sym, ap, ◌∙◌, subst, arith, inl, inr}
use Rattle.std.specs.Prelude.{Bool, true, false, ◌⊎◌, slice_get}
use Rattle.std.specs.List.{Contains}
use Rattle.std.proofs.lemmas.Bool.Decides.{nat_tests}
use Rattle.std.proofs.lemmas.Bool.{cases_lt}
use Rattle.std.proofs.lemmas.List.{length-replicate}
use Rattle.std.proofs.lemmas.Option.{same_Some}
use Rattle.je_core.specs.declared.types.ClassId.{ClassId}
use Rattle.je_core.specs.Core.{CoreProgram}
use Rattle.je_classes.specs.Hierarchy.{supers_of, IsAcyclic}
use Rattle.je_classes.specs.Members.{In, first}
use Rattle.je_classes.proofs.Lists.{contains-here}
use Rattle.je_classes.proofs.Sets.{in-left, in-right}
use Rattle.class_tables.specs.way.Order.{first_in, first_super, first_super_if, up, is_marked, IsThere, IsReady, AreBehind, none_yet, one_more, IsOrder, IsPath}
use Rattle.class_tables.specs.declared.order.Order.{Order}

pub get-old : {A : Type 0} (xs : List A) (x : A) (i : ℕ) → i < length xs → slice_get (xs ++ x ∷ []) i ≡ slice_get xs i
get-old [] x i l = absurd (omega (arith, l))
get-old (y ∷ ys) x zero l = refl
get-old (y ∷ ys) x (suc i) l = get-old ys x i (omega (arith, l))

pub get-new : {A : Type 0} (xs : List A) (x : A) → slice_get (xs ++ x ∷ []) (length xs) ≡ Some x
get-new [] x = refl
get-new (y ∷ ys) x = get-new ys x

pub length-push : {A : Type 0} (xs : List A) (x : A) → length (xs ++ x ∷ []) ≡ length xs + 1
length-push [] x = refl
length-push (y ∷ ys) x = let e : length (ys ++ x ∷ []) ≡ length ys + 1 = length-push ys x in omega (arith, e)

pub none-true : (n i : ℕ) → slice_get (replicate n false) i ≡ Some true → ⊥
none-true zero i e = cc
none-true (suc n) zero e = cc
none-true (suc n) (suc i) e = none-true n i e

pub one_class : (c d : ClassId) → c.0 ≡ d.0 → c ≡ d
one_class c d e = grind (arith, nat_tests)

first-contains : (xs : List ClassId) (d : ClassId) → first_in xs ≡ Some d → Contains xs d
first-contains [] d e = absurd cc
first-contains (c ∷ cs) d e = subst (λ k. Contains (c ∷ cs) k) (same_Some c d e) (contains-here c cs)

pub is-marked : (o : Option Bool) → is_marked o ≡ true → (o ≡ None) ⊎ (o ≡ Some true)
is-marked None e = inl refl
is-marked (Some true) e = inr refl
is-marked (Some false) e = absurd cc

none-some : {A : Type 0} (x : A) → None ≡ Some x → ⊥
none-some x e = cc

pub get-there : {A : Type 0} (xs : List A) (i : ℕ) → i < length xs → (x : A) × (slice_get xs i ≡ Some x)
get-there [] i l = absurd (omega (arith, l))
get-there (x ∷ xs) zero l = (x, refl)
get-there (x ∷ xs) (suc i) l = get-there xs i (omega (arith, l))

module _ (p : CoreProgram) where
  up-depth : (a : IsAcyclic p) (i : ℕ) (c d : ClassId) → up p i c ≡ Some d → a.depth d + i < length p.classes
  up-depth a zero c d e = let l : a.depth d < length p.classes = a.within d in omega (arith, l)
  up-depth a (suc i) c d e = by (up p i c) refl e (up-depth a i c)
    where
      by : (o : Option ClassId) → up p i c ≡ o → first_super_if p o ≡ Some d → ((k : ClassId) → up p i c ≡ Some k → a.depth k + i < length p.classes) → a.depth d + suc i < length p.classes
      by None q h below = absurd cc
      by (Some k) q h below =
          let f : a.depth d < a.depth k = a.falls k d (first-contains (supers_of p k) d h) in
          let g : a.depth k + i < length p.classes = below k q in omega (arith, f, g)

  -- ---- climbing

  pub record IsClimb (class : ClassId) (at : ℕ) (path : List ClassId) (above : Option ClassId) : Type 0 where
    pub count : length path ≡ at
    pub each : (i : ℕ) → i < at → slice_get path i ≡ up p i class
    pub next : above ≡ up p at class

  pub climb-begins : (class : ClassId) → IsClimb class 0 [] (Some class)
  climb-begins class = record { count = refl; each = λ i l. absurd (omega (arith, l)); next = refl }

  pub climb-goes : (class : ClassId) (at : ℕ) (path : List ClassId) (c : ClassId) → IsClimb class at path (Some c) → IsClimb class (at + 1) (path ++ c ∷ []) (first_super p c)
  climb-goes class at path c h = record {
    count = length-push path c ∙ ap (λ k. k + 1) h.count;
    each = each;
    next = let s : suc at ≡ at + 1 = omega arith in ap (first_super_if p) h.next ∙ ap (λ k. up p k class) s;
  }
    where
      here : (i : ℕ) → i ≡ at → slice_get (path ++ c ∷ []) i ≡ up p i class
      here i is = ap (λ k. slice_get (path ++ c ∷ []) k) (is ∙ sym h.count) ∙ get-new path c ∙ h.next ∙ ap (λ k. up p k class) (sym is)

      by : (i : ℕ) → i < at + 1 → (i < at) ⊎ (at ≤ i) → slice_get (path ++ c ∷ []) i ≡ up p i class
      by i l (inl lt) = get-old path c i (let e = h.count in omega (arith, lt, e)) ∙ h.each i lt
      by i l (inr le) = here i (omega (arith, l, le))

      each : (i : ℕ) → i < at + 1 → slice_get (path ++ c ∷ []) i ≡ up p i class
      each i l = by i l (cases_lt i at)

  -- ---- where it ends

  path-count : (class : ClassId) (at : ℕ) (path : List ClassId) (above : Option ClassId) → IsClimb class at path above → (i : ℕ) → i < length path → slice_get path i ≡ up p i class
  path-count class at path above h i l = h.each i (let e = h.count in omega (arith, l, e))

  module _ (order : Order) (class : ClassId) (at : ℕ) (path : List ClassId) where
    above-is : (above : Option ClassId) → IsClimb class at path above → (d : ClassId) → up p (length path) class ≡ Some d → above ≡ Some d
    above-is above h d e = h.next ∙ ap (λ k. up p k class) (sym h.count) ∙ e

    pub ends-on-top : IsClimb class at path None → IsPath p order class path
    ends-on-top h = record { each = path-count class at path None h; ends = λ d e. absurd (let n : None ≡ Some d = above-is None h d e in cc) }

    pub ends-at-placed : (c : ClassId) → IsClimb class at path (Some c) → IsOrder p order → is_marked (slice_get order.placed.items c.0) ≡ true → IsPath p order class path
    ends-at-placed c h o m = record {
      each = path-count class at path (Some c) h;
      ends = λ d e. subst (λ k. IsThere p order.classes.items k) (same_Some c d (above-is (Some c) h d e)) (λ l. by l (is-marked (slice_get order.placed.items c.0) m));
    }
      where
        by : c.0 < length p.classes → (slice_get order.placed.items c.0 ≡ None) ⊎ (slice_get order.placed.items c.0 ≡ Some true) → In order.classes.items c
        by l (inl n) = absurd (let k : c.0 < length order.placed.items = (let e = o.count in omega (arith, l, e)) in let g = get-there order.placed.items c.0 k in none-some g.0 (sym n ∙ g.1))
        by l (inr s) = o.marked c s

    pub ends-at-once : (above : Option ClassId) → IsAcyclic p → IsClimb class at path above → length p.classes ≤ at → IsPath p order class path
    ends-at-once above a h l = record {
      each = path-count class at path above h;
      ends = λ d e. absurd (let f : a.depth d + length path < length p.classes = up-depth a (length path) class d e in let n = h.count in omega (arith, f, l, n));
    }

  -- ---- placing

  pub placed : (old new : Order) (c : ClassId) → IsOrder p old → IsReady p old.classes.items c → new.classes.items ≡ old.classes.items ++ c ∷ [] → length new.placed.items ≡ length old.placed.items →
      ((k : ClassId) → slice_get new.placed.items k.0 ≡ Some true → (slice_get old.placed.items k.0 ≡ Some true) ⊎ (k ≡ c)) → IsOrder p new
  placed old new c o r e n m = record {
    behind = subst (AreBehind p) (sym e) (one_more old.classes.items c o.behind r);
    count = n ∙ o.count;
    marked = λ k h. subst (λ xs. In xs k) (sym e) (by k (m k h));
  }
    where
      by : (k : ClassId) → (slice_get old.placed.items k.0 ≡ Some true) ⊎ (k ≡ c) → In (old.classes.items ++ c ∷ []) k
      by k (inl h) = in-left (c ∷ []) (o.marked k h)
      by k (inr is) = in-right old.classes.items (subst (λ x. In (c ∷ []) x) (sym is) first)

  -- the last of a path is ready, and what is left is a path where it is placed
  module _ (order : Order) (class : ClassId) (path rest : List ClassId) (c : ClassId) (e : path ≡ rest ++ c ∷ []) (h : IsPath p order class path) where
    count : length path ≡ length rest + 1
    count = ap length e ∙ length-push rest c

    pub last-is : up p (length rest) class ≡ Some c
    last-is = sym (h.each (length rest) (let n = count in omega (arith, n))) ∙ ap (λ xs. slice_get xs (length rest)) e ∙ get-new rest c

    pub last-ready : IsReady p order.classes.items c
    last-ready d q = h.ends d (let s : length path ≡ suc (length rest) = (let n = count in omega (arith, n)) in ap (λ k. up p k class) s ∙ ap (first_super_if p) last-is ∙ q)

    pub rest-path : (new : Order) → new.classes.items ≡ order.classes.items ++ c ∷ [] → IsPath p new class rest
    rest-path new q = record {
      each = λ i l. sym (get-old rest c i l) ∙ ap (λ xs. slice_get xs i) (sym e) ∙ h.each i (let n = count in omega (arith, l, n));
      ends = λ d k l. subst (λ xs. In xs d) (sym q) (in-right order.classes.items (subst (λ x. In (c ∷ []) x) (same_Some c d (sym last-is ∙ k)) first));
    }

  pub at-bottom : (order : Order) (class : ClassId) (path : List ClassId) → length path ≡ 0 → IsPath p order class path → IsThere p order.classes.items class
  at-bottom order class path e h = h.ends class (ap (λ k. up p k class) e)

  pub begins : (order : Order) → order.classes.items ≡ [] → order.placed.items ≡ replicate (length p.classes) false → IsOrder p order
  begins order e f = record {
    behind = subst (AreBehind p) (sym e) none_yet;
    count = ap length f ∙ length-replicate (length p.classes) false;
    marked = λ c h. absurd (none-true (length p.classes) c.0 (ap (λ xs. slice_get xs c.0) (sym f) ∙ h));
  }

  pub one-further : (xs : List ClassId) (at : ℕ) → ((c : ClassId) → c.0 < at → In xs c) → (own : ClassId) → own.0 ≡ at → In xs own → (c : ClassId) → c.0 < at + 1 → In xs c
  one-further xs at f own e q c l = by (cases_lt c.0 at)
    where
      by : (c.0 < at) ⊎ (at ≤ c.0) → In xs c
      by (inl lt) = f c lt
      by (inr le) = subst (λ k. In xs k) (one_class own c (omega (arith, e, l, le))) q
