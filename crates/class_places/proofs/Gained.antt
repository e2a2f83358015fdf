-- What a set of captured locals gains.
use Rattle.std.proofs.Common.{◌≡◌, ℕ, zero, suc, ◌+◌, ◌<◌, ◌≤◌, List, [], ◌∷◌, ◌++◌, length, get_or, take, Some, None, refl, sym, ◌∙◌, ap, subst, append_assoc, arith, inl, inr}
use Rattle.std.specs.Prelude.{◌⊎◌, ◌&&◌, Bool, true, cond, nat_eq, slice_get}
use Rattle.std.specs.List.{Contains, list_any}
use Rattle.std.proofs.lemmas.Bool.{and_parts, eqb-true}
use Rattle.std.proofs.lemmas.List.{append-nil, map-append, take_more}
use Rattle.std.proofs.lemmas.Option.{slice_get_within}
use Rattle.indexmap.specs.IndexSet.{insert_key}
use Rattle.indexmap.proofs.CallerLemmas.{Contains-list_any}
use Rattle.je_core.specs.declared.types.ClassId.{ClassId}
use Rattle.je_classes.proofs.Lists.{bool_cases, contains-here, contains-cases}
use Rattle.je_scopes.proofs.Either.{by_either, nat_split, nothing-in}
use Rattle.je_scopes.proofs.Lists.{in-left, in-right, in-either}
use Rattle.name_sites.specs.Number.{number_of}
use Rattle.name_walk.proofs.Standing.{slice_get-append}
use Rattle.name_lookup.specs.View.{numbers}
use Rattle.name_typing.specs.Program.{Program}
use Rattle.body_typing.specs.Bodies.{Met, captures}
use Rattle.class_places.specs.declared.kept.Kept.{Kept}
use Rattle.class_places.specs.declared.users.Users.{Users}
use Rattle.class_places.specs.way.Kept.{Gains, Is, IsDirect, IsHandedOn, IsHandedTo, IsOutside}
use Rattle.class_places.specs.way.Users.{users_of}
use Rattle.class_places.proofs.Ends.{in-snoc}

module _ (p : Program) where
  pub kept-all : (R : Kept → Type 0) (a b : List Kept) → Gains p R a b → (k : Kept) → Contains a k → Contains b k
  kept-all R a b g k q = subst (λ (l : List Kept). Contains l k) (sym g.longer) (in-left a g.added k q)

  -- some, and then others
  pub gains-then : (R S T : Kept → Type 0) (a b c : List Kept) → Gains p R a b → Gains p S b c → ((k : Kept) → T k → R k ⊎ S k) →
      ((k : Kept) → R k → T k) → ((k : Kept) → S k → T k) → Gains p T a c
  gains-then R S T a b c g h split left right = record {
    added = g.added ++ h.added;
    longer = h.longer ∙ ap (λ (l : List Kept). l ++ h.added) g.longer ∙ append_assoc a g.added h.added;
    outside = λ k q. by_either (λ r. g.outside k r) (λ r. h.outside k r) (in-either g.added h.added k q);
    only = λ k q. by_either (λ r. left k (g.only k r)) (λ r. right k (h.only k r)) (in-either g.added h.added k q);
    has = λ k o t. by_either (λ r. kept-all S b c h k (g.has k o r)) (λ r. h.has k o r) (split k t);
  }

  pub gains-none : (T : Kept → Type 0) (a : List Kept) → ((k : Kept) → IsOutside p k → T k → ⊥) → Gains p T a a
  gains-none T a never = record {
    added = [];
    longer = sym (append-nil a);
    outside = λ k q. absurd (nothing-in k q);
    only = λ k q. absurd (nothing-in k q);
    has = λ k o t. absurd (never k o t);
  }

  pub gains-same : (R T : Kept → Type 0) (a b : List Kept) → Gains p R a b → ((k : Kept) → T k → R k) → ((k : Kept) → R k → T k) → Gains p T a b
  gains-same R T a b g from to = record {
    added = g.added;
    longer = g.longer;
    outside = g.outside;
    only = λ k q. to k (g.only k q);
    has = λ k o t. g.has k o (from k t);
  }

  -- one more, which may be there already
  pub gains-insert : (eq : Kept → Kept → Bool) → ((a b : Kept) → eq a b ≡ true → a ≡ b) → (ks : List Kept) (one : Kept) → IsOutside p one → Gains p (Is one) ks (insert_key eq ks one)
  gains-insert eq same ks one o = bool_cases (λ b. Gains p (Is one) ks (cond b ks (ks ++ one ∷ []))) (list_any (eq one) ks)
      (λ e. record {
        added = [];
        longer = sym (append-nil ks);
        outside = λ k q. absurd (nothing-in k q);
        only = λ k q. absurd (nothing-in k q);
        has = λ k s t. subst (Contains ks) (sym t) (Contains-list_any eq same ks one e);
      })
      (λ e. record {
        added = one ∷ [];
        longer = refl;
        outside = λ k q. subst (IsOutside p) (sym (alone k q)) o;
        only = λ k q. alone k q;
        has = λ k s t. in-right ks (one ∷ []) k (subst (Contains (one ∷ [])) (sym t) (contains-here one []));
      })
    where
      alone : (k : Kept) → Contains (one ∷ []) k → k ≡ one
      alone k q = by_either (λ e. sym e) (λ r. absurd (nothing-in k r)) (contains-cases one k [] q)

  same-kept : (a b : Kept) → (nat_eq a.class.0 b.class.0 && (nat_eq a.owner.0 b.owner.0 && nat_eq a.local b.local)) ≡ true → a ≡ b
  same-kept a b e =
      let s = and_parts (nat_eq a.class.0 b.class.0) (nat_eq a.owner.0 b.owner.0 && nat_eq a.local b.local) e in
      let t = and_parts (nat_eq a.owner.0 b.owner.0) (nat_eq a.local b.local) s.1 in
      λ i. record {
        class = record { 0 = eqb-true a.class.0 b.class.0 s.0 i };
        owner = record { 0 = eqb-true a.owner.0 b.owner.0 t.0 i };
        local = eqb-true a.local b.local t.1 i;
      }

  pub gains_inserted : (eq : Kept → Kept → Bool) → ((a b : Kept) → eq a b ≡ (nat_eq a.class.0 b.class.0 && (nat_eq a.owner.0 b.owner.0 && nat_eq a.local b.local))) →
      (ks new : List Kept) (one : Kept) → IsOutside p one → new ≡ insert_key eq ks one → Gains p (Is one) ks new
  gains_inserted eq by ks new one o e = subst (λ (l : List Kept). Gains p (Is one) ks l) (sym e) (gains-insert eq (λ a b h. same-kept a b (sym (by a b) ∙ h)) ks one o)

  -- ---- what bodies name

  module _ (a b c : List Kept) (ms more : List Met) (m : Met) (e : more ≡ ms ++ m ∷ []) where
    pub direct_one : (one : Kept) → Gains p (IsDirect ms) a b → Gains p (Is one) b c → m ≡ captures one.class.0 one.owner.0 one.local → Gains p (IsDirect more) a c
    direct_one one g h s =
        let grown : more ≡ ms ++ captures one.class.0 one.owner.0 one.local ∷ [] = e ∙ ap (λ k. ms ++ k ∷ []) s in
        gains-then (IsDirect ms) (Is one) (IsDirect more) a b c g h
        (λ k q. by_either (λ r. inl r) (λ r. inr (named-one one k r)) (in-snoc ms (captures one.class.0 one.owner.0 one.local) (captures k.class.0 k.owner.0 k.local) (subst (λ (l : List Met). Contains l (captures k.class.0 k.owner.0 k.local)) grown q)))
        (λ k q. subst (λ (l : List Met). Contains l (captures k.class.0 k.owner.0 k.local)) (sym grown) (in-left ms (captures one.class.0 one.owner.0 one.local ∷ []) (captures k.class.0 k.owner.0 k.local) q))
        (λ k q. subst (λ (n : Kept). Contains more (captures n.class.0 n.owner.0 n.local)) (sym q)
        (subst (λ (l : List Met). Contains l (captures one.class.0 one.owner.0 one.local)) (sym grown) (in-right ms (captures one.class.0 one.owner.0 one.local ∷ []) (captures one.class.0 one.owner.0 one.local) (contains-here (captures one.class.0 one.owner.0 one.local) []))))
      where
        named-one : (one k : Kept) → captures one.class.0 one.owner.0 one.local ≡ captures k.class.0 k.owner.0 k.local → k ≡ one
        named-one one k r =
            let x : k.class.0 ≡ one.class.0 = cc in let y : k.owner.0 ≡ one.owner.0 = cc in let z : k.local ≡ one.local = cc in
            λ i. record { class = record { 0 = x i }; owner = record { 0 = y i }; local = z i }

    pub direct_none : ((k : Kept) → m ≡ captures k.class.0 k.owner.0 k.local → ⊥) → Gains p (IsDirect ms) a b → Gains p (IsDirect more) a b
    direct_none never g = gains-same (IsDirect ms) (IsDirect more) a b g
        (λ k q. by_either (λ r. r) (λ r. absurd (never k r)) (in-snoc ms m (captures k.class.0 k.owner.0 k.local) (subst (λ (l : List Met). Contains l (captures k.class.0 k.owner.0 k.local)) e q)))
        (λ k q. subst (λ (l : List Met). Contains l (captures k.class.0 k.owner.0 k.local)) (sym e) (in-left ms (m ∷ []) (captures k.class.0 k.owner.0 k.local) q))

  pub direct_begins : (a : List Kept) → Gains p (IsDirect []) a a
  direct_begins a = gains-none (IsDirect []) a (λ k o q. nothing-in (captures k.class.0 k.owner.0 k.local) q)

  -- ---- users of one class

  pub handed_more : (users : List ClassId) (i : ℕ) (d : ClassId) (one : Kept) (a b c : List Kept) → i < length users → Gains p (IsHandedTo (numbers (take i users)) one) a b →
      Gains p (Is (record { class = get_or users i d; owner = one.owner; local = one.local })) b c → Gains p (IsHandedTo (numbers (take (i + 1) users)) one) a c
  handed_more users i d one a b c l g h =
      let user = get_or users i d in
      let grown : numbers (take (i + 1) users) ≡ numbers (take i users) ++ user.0 ∷ [] = ap numbers (take_more users i d l) ∙ map-append number_of (take i users) (user ∷ []) in
      gains-then (IsHandedTo (numbers (take i users)) one) (Is (record { class = user; owner = one.owner; local = one.local })) (IsHandedTo (numbers (take (i + 1) users)) one) a b c g h
      (λ k q. by_either (λ r. inl (record { user = r; owner = q.owner; local = q.local }))
      (λ r. inr (λ j. record { class = record { 0 = sym r j }; owner = q.owner j; local = q.local j }))
      (in-snoc (numbers (take i users)) user.0 k.class.0 (subst (λ (ns : List ℕ). Contains ns k.class.0) grown q.user)))
      (λ k q. record { user = subst (λ (ns : List ℕ). Contains ns k.class.0) (sym grown) (in-left (numbers (take i users)) (user.0 ∷ []) k.class.0 q.user); owner = q.owner; local = q.local })
      (λ k q. record {
        user = subst (λ (n : ℕ). Contains (numbers (take (i + 1) users)) n) (sym (ap (λ (k : Kept). k.class.0) q)) (subst (λ (ns : List ℕ). Contains ns user.0) (sym grown) (in-right (numbers (take i users)) (user.0 ∷ []) user.0 (contains-here user.0 [])));
        owner = ap (λ (k : Kept). k.owner) q;
        local = ap (λ (k : Kept). k.local) q;
      })

  pub handed_begins : (one : Kept) (a : List Kept) → Gains p (IsHandedTo [] one) a a
  handed_begins one a = gains-none (IsHandedTo [] one) a (λ k o q. nothing-in k.class.0 q.user)

  -- ---- one step further

  module _ (u : Users) (keys : List Kept) (start at : ℕ) (b : List Kept) (g : Gains p (IsHandedOn u keys start at) keys b) where
    pub step_one : (c : List Kept) (one : Kept) → start ≤ at → at < length keys → slice_get b at ≡ Some one → Gains p (IsHandedTo (users_of u one.class.0) one) b c →
        Gains p (IsHandedOn u keys start (at + 1)) keys c
    step_one c one l m e h =
        let here : slice_get keys at ≡ Some one = sym (slice_get-append keys g.added at m) ∙ ap (λ (ls : List Kept). slice_get ls at) (sym g.longer) ∙ e in
        gains-then (IsHandedOn u keys start at) (IsHandedTo (users_of u one.class.0) one) (IsHandedOn u keys start (at + 1)) keys b c g h
        (λ k q. let n : q.at < at + 1 = q.before in by_either
        (λ (s : q.at ≡ at). let same : Some q.one ≡ Some one = sym q.there ∙ ap (slice_get keys) s ∙ here in let t : q.one ≡ one = cc in inr (subst (λ (x : Kept). IsHandedTo (users_of u x.class.0) x k) t q.handed))
        (λ r. inl (record { at = q.at; from = q.from; before = r; one = q.one; there = q.there; handed = q.handed }))
        (nat_split q.at at (omega (arith, n))))
        (λ k q. let n : q.at < at = q.before in record { at = q.at; from = q.from; before = omega (arith, n); one = q.one; there = q.there; handed = q.handed })
        (λ k q. record { at = at; from = l; before = omega arith; one = one; there = here; handed = q })

    pub step_there : at < length keys → slice_get b at ≡ None → ⊥
    step_there m e = let h : slice_get b at ≡ slice_get keys at = ap (λ (ls : List Kept). slice_get ls at) g.longer ∙ slice_get-append keys g.added at m in
        none-there keys at m (sym h ∙ e)
      where
        none-there : {A : Type 0} (xs : List A) (i : ℕ) → i < length xs → slice_get xs i ≡ None → ⊥
        none-there [] i l e = absurd (omega arith)
        none-there (x ∷ xs) zero l e = absurd (cc)
        none-there (x ∷ xs) (suc i) l e = none-there xs i (omega arith) e

    pub step_ends : length keys ≤ at → Gains p (IsHandedOn u keys start (length keys)) keys b
    step_ends l = gains-same (IsHandedOn u keys start at) (IsHandedOn u keys start (length keys)) keys b g
        (λ k q. let n : q.at < length keys = q.before in record { at = q.at; from = q.from; before = omega (arith, n, l); one = q.one; there = q.there; handed = q.handed })
        (λ k q. record { at = q.at; from = q.from; before = slice_get_within keys q.at q.one q.there; one = q.one; there = q.there; handed = q.handed })
