-- Rounds that go up the classes, and when a class has all that it will have.
use Rattle.std.proofs.Common.{◌≡◌, ℕ, zero, suc, ◌+◌, ◌<◌, ◌≤◌, List, [], ◌∷◌, ◌++◌, length, refl, sym, ap, ◌∙◌, arith}
use Rattle.std.specs.Prelude.{Bool, true, false, not, ◌&&◌, ◌⊎◌, Option, Some, None, filter, map, slice_get}
use Rattle.std.specs.List.{list_all}
use Rattle.std.proofs.Common.{inl, inr}
use Rattle.std.proofs.lemmas.List.{length-append}
use Rattle.std.proofs.lemmas.Option.{slice_get_cases, slice_get_past}
use Rattle.je_scopes.specs.SourceTypes.{SourceType, plain, of_class, of_variable}
use Rattle.je_typing.specs.Castable.{is_interface}
use Rattle.declarations.specs.Declarations.{DeclaredClass}
use Rattle.source_types.specs.Heads.{ClassHead}
use Rattle.source_types.proofs.Same.{and-left, and-right}
use Rattle.overriding.specs.Methods.{Method, abstract_in, has_within, inherited_by, inherited, inherited_from, is_overridden, joined, joined_over, own, seen_in}
use Rattle.class_methods.specs.declared.hierarchy.Hierarchy.{Hierarchy}
use Rattle.class_methods.specs.HierarchyView.{HasAll, methods_in}
use Rattle.class_methods.specs.View.{table_seen}
use Rattle.class_methods.specs.way.Parts.{in_table, or_none}
use Rattle.class_methods.specs.way.Rounds.{AfterAll, AfterRounds, in_bools, is_settled, list_to, next_methods, next_settled, or_false}

nat-order : (c n : ℕ) → (c < n) ⊎ (n ≤ c)
nat-order c zero = inr (omega arith)
nat-order zero (suc n) = inl (omega arith)
nat-order (suc c) (suc n) = elim (nat-order c n) [ inl h ↦ inl (omega (arith, h)) | inr h ↦ inr (omega (arith, h)) ]

below-more : (c n : ℕ) → c < suc n → (c < n) ⊎ (c ≡ n)
below-more zero zero l = inr refl
below-more zero (suc n) l = inl (omega arith)
below-more (suc c) zero l = absurd (omega (arith, l))
below-more (suc c) (suc n) l = elim (below-more c n (omega (arith, l))) [ inl h ↦ inl (omega (arith, h)) | inr e ↦ inr (ap suc e) ]

-- ---- lists of what a function gives

module _ {A : Type 0} where
  in-front : (xs ys : List A) (c : ℕ) → c < length xs → slice_get (xs ++ ys) c ≡ slice_get xs c
  in-front [] ys c l = absurd (omega (arith, l))
  in-front (x ∷ xs) ys zero l = refl
  in-front (x ∷ xs) ys (suc c) l = in-front xs ys c (omega (arith, l))

  the-last : (xs : List A) (y : A) → slice_get (xs ++ y ∷ []) (length xs) ≡ Some y
  the-last [] y = refl
  the-last (x ∷ xs) y = the-last xs y

  pub length-list_to : (f : ℕ → A) (n : ℕ) → length (list_to f n) ≡ n
  length-list_to f zero = refl
  length-list_to f (suc n) =
      let e : length (list_to f n ++ f n ∷ []) ≡ length (list_to f n) + 1 = length-append (list_to f n) (f n ∷ []) in
      let d : length (list_to f n) ≡ n = length-list_to f n in
      omega (arith, e, d)

  pub in-list_to : (f : ℕ → A) (n c : ℕ) → c < n → slice_get (list_to f n) c ≡ Some (f c)
  in-list_to f zero c l = absurd (omega (arith, l))
  in-list_to f (suc n) c l = elim (below-more c n l) [
    | inl h ↦ in-front (list_to f n) (f n ∷ []) c (let d : length (list_to f n) ≡ n = length-list_to f n in omega (arith, d, h)) ∙ in-list_to f n c h
    | inr e ↦ ap (slice_get (list_to f n ++ f n ∷ [])) (e ∙ sym (length-list_to f n)) ∙ the-last (list_to f n) (f n) ∙ ap (λ (k : ℕ). Some (f k)) (sym e)
  ]

  pub past-list_to : (f : ℕ → A) (n c : ℕ) → n ≤ c → slice_get (list_to f n) c ≡ None
  past-list_to f n c l = slice_get_past (list_to f n) c (let d : length (list_to f n) ≡ n = length-list_to f n in omega (arith, d, l))

  pub all-in : (p : A → Bool) (xs : List A) (c : ℕ) (x : A) → list_all p xs ≡ true → slice_get xs c ≡ Some x → p x ≡ true
  all-in p [] c x e h = absurd cc
  all-in p (y ∷ xs) zero x e h = let f : y ≡ x = cc in ap p (sym f) ∙ and-left (p y) (list_all p xs) e
  all-in p (y ∷ xs) (suc c) x e h = all-in p xs c x (and-right (p y) (list_all p xs) e) h

-- ---- one class, by what those directly above it have

module _ (f g : ℕ → List Method) where
  same-of : (settled : List Bool) (t : SourceType) → ((c : ℕ) → in_bools settled c ≡ true → f c ≡ g c) → is_settled settled t ≡ true → seen_in f t ≡ seen_in g t
  same-of settled (plain b n) h e = refl
  same-of settled (of_class c args n) h e = ap (λ (ms : List Method). seen_in (λ d. ms) (of_class c args n)) (h c e)
  same-of settled (of_variable c at n) h e = refl

  same-over : (settled : List Bool) (ts : List SourceType) (ms : List Method) → ((c : ℕ) → in_bools settled c ≡ true → f c ≡ g c) → list_all (is_settled settled) ts ≡ true →
      joined_over (seen_in f) ms ts ≡ joined_over (seen_in g) ms ts
  same-over settled [] ms h e = refl
  same-over settled (t ∷ ts) ms h e =
      ap (λ (ns : List Method). joined_over (seen_in f) (joined ms ns) ts) (same-of settled t h (and-left (is_settled settled t) (list_all (is_settled settled) ts) e))
      ∙ same-over settled ts (joined ms (seen_in g t)) h (and-right (is_settled settled t) (list_all (is_settled settled) ts) e)

module _ (heads : List ClassHead) (classes : List DeclaredClass) where
  same-inherited : (f g : ℕ → List Method) (settled : List Bool) (c : ℕ) → ((d : ℕ) → in_bools settled d ≡ true → f d ≡ g d) → next_settled heads settled c ≡ true →
      inherited_by heads classes f c ≡ inherited_by heads classes g c
  same-inherited f g settled c h e =
      ap (λ (ms : List Method). map (abstract_in (is_interface heads c)) (filter (λ m. not (is_overridden heads (own classes c) m)) ms)) (same-over f g settled (inherited_from heads c) [] h e)

  -- ---- a class that isn't there has nothing

  beyond : (n c : ℕ) → length heads ≤ c → length classes ≤ c → has_within heads classes n c ≡ []
  beyond zero c l k = refl
  beyond (suc n) c l k = rw (slice_get_past heads c l, slice_get_past classes c k) refl

  -- ---- a round

  module _ (n : ℕ) (table : List (List Method)) (settled : List Bool) (count : ℕ) (few : length heads ≤ count) (fewer : length classes ≤ count) (h : AfterRounds heads classes n table settled) where
    functions : in_table table ≡ has_within heads classes n
    functions = λ i c. h.methods c i

    new-methods : (c : ℕ) → in_table (list_to (next_methods heads classes table) count) c ≡ has_within heads classes (suc n) c
    new-methods c = elim (nat-order c count) [
      | inl l ↦ ap or_none (in-list_to (next_methods heads classes table) count c l) ∙ ap (λ (f : ℕ → List Method). own classes c ++ inherited_by heads classes f c) functions
      | inr l ↦ ap or_none (past-list_to (next_methods heads classes table) count c l)
          ∙ sym (beyond (suc n) c (omega (arith, l, few)) (omega (arith, l, fewer)))
    ]

    now-settled : (c : ℕ) → in_bools (list_to (next_settled heads settled) count) c ≡ true → next_settled heads settled c ≡ true
    now-settled c e = elim (nat-order c count) [
      | inl l ↦ sym (ap or_false (in-list_to (next_settled heads settled) count c l)) ∙ e
      | inr l ↦ let none : false ≡ true = sym (ap or_false (past-list_to (next_settled heads settled) count c l)) ∙ e in absurd cc
    ]

    new-lasting : (c k : ℕ) → in_bools (list_to (next_settled heads settled) count) c ≡ true → suc n ≤ k → has_within heads classes k c ≡ has_within heads classes (suc n) c
    new-lasting c zero e l = absurd (omega (arith, l))
    new-lasting c (suc k) e l =
        ap (λ (ms : List Method). own classes c ++ ms)
        (same-inherited (has_within heads classes k) (has_within heads classes n) settled c (λ d q. h.lasting d k q (omega (arith, l))) (now-settled c e))

    after-next : AfterRounds heads classes (suc n) (list_to (next_methods heads classes table) count) (list_to (next_settled heads settled) count)
    after-next = record { methods = new-methods; lasting = new-lasting }

    pub one_round : (new : List (List Method)) (now : List Bool) → new ≡ list_to (next_methods heads classes table) count → now ≡ list_to (next_settled heads settled) count →
        AfterRounds heads classes (n + 1) new now
    one_round new now e f =
        let k : n + 1 ≡ suc n = omega arith in
        rw (k, e, f) after-next

    every-one : list_all (λ b. b) settled ≡ true → (c : ℕ) → c < length settled → in_bools settled c ≡ true
    every-one e c l = elim (slice_get_cases settled c).1 [
      | inl w ↦ ap or_false w.2 ∙ all-in (λ b. b) settled c w.0 e w.2
      | inr w ↦ absurd (omega (arith, l, w.0))
    ]

    pub all_settled : n ≤ length classes → length settled ≡ count → list_all (λ b. b) settled ≡ true → AfterAll heads classes table
    all_settled most e f = record {
      each = λ c. elim (nat-order c count) [
        | inl l ↦ h.methods c ∙ sym (h.lasting c (length classes) (every-one f c (omega (arith, l, e))) most)
        | inr l ↦ h.methods c ∙ beyond n c (omega (arith, l, few)) (omega (arith, l, fewer)) ∙ sym (beyond (length classes) c (omega (arith, l, few)) (omega (arith, l, fewer)))
      ];
    }

  pub all_rounds : (n : ℕ) (table : List (List Method)) (settled : List Bool) → AfterRounds heads classes n table settled → n ≡ length classes → AfterAll heads classes table
  all_rounds n table settled h e = record { each = λ c. h.methods c ∙ ap (λ (k : ℕ). has_within heads classes k c) e }

  pub no_rounds : AfterRounds heads classes 0 [] []
  no_rounds = record { methods = λ c. refl; lasting = λ c k e l. absurd cc }

  pub has_all : (h : Hierarchy) → AfterAll heads classes (table_seen h.table.items) → HasAll heads classes h
  unfolding methods_in
  has_all h a = record { each = a.each }

  pub inherits : (h : Hierarchy) (c : ℕ) → HasAll heads classes h → inherited_by heads classes (in_table (table_seen h.table.items)) c ≡ inherited heads classes c
  unfolding methods_in inherited
  inherits h c a =
      let same : in_table (table_seen h.table.items) ≡ has_within heads classes (length classes) = λ i d. a.each d i in
      ap (λ (f : ℕ → List Method). inherited_by heads classes f c) same
