-- The locals that a class captures, as they are found from the outermost on.
use Rattle.std.proofs.Common.{◌≡◌, ℕ, zero, suc, ◌-◌, ◌<◌, ◌≤◌, List, [], ◌∷◌, ◌++◌, length, drop, get_or, Some, refl, sym, ◌∙◌, ap, subst, arith, append_assoc, eq-eqb}
use Rattle.std.specs.Prelude.{◌&&◌, Bool, true, false, cond, filter, flat_map, map, nat_eq, slice_get}
use Rattle.std.specs.declared.vec.Vec.{Vec}
use Rattle.std.specs.declared.alloc.Global.{Global}
use Rattle.std.proofs.lemmas.Bool.{and_parts, eqb-true}
use Rattle.std.proofs.lemmas.List.{append-nil, map-append}
use Rattle.std.proofs.lemmas.Option.{slice_get-get_or, slice_get_past}
use Rattle.je_classes.proofs.Lists.{any-contains, bool_cases, contains-any}
use Rattle.je_scopes.proofs.Either.{by_either, within_or_past}
use Rattle.source_types.specs.Erasure.{class_numbered}
use Rattle.name_typing.specs.Program.{Frame, LocalVariable, Program}
use Rattle.body_typing.specs.Bodies.{Met}
use Rattle.class_typing.specs.Captures.{captured_locals, captures_within, is_captured, reversed}
use Rattle.class_typing.specs.Programs.{CapturedLocal}
use Rattle.body_walks.specs.Known.{CapturedLocal as Captured, captured_seen, locals_in as locals_of}
use Rattle.class_places.specs.declared.kept.Kept.{Kept}
use Rattle.class_places.specs.way.Kept.{AreAll}
use Rattle.class_places.specs.way.Locals.{is_kept, is_one, locals_from, locals_in, own}
use Rattle.class_places.proofs.Ways.{along, outside_within}

filter-append : {A : Type 0} (test : A → Bool) (xs ys : List A) → filter test (xs ++ ys) ≡ filter test xs ++ filter test ys
filter-append test [] ys = refl
filter-append test (x ∷ xs) ys = bool_cases (λ b. cond b (x ∷ filter test (xs ++ ys)) (filter test (xs ++ ys)) ≡ cond b (x ∷ filter test xs) (filter test xs) ++ filter test ys) (test x)
    (λ e. ap (λ l. x ∷ l) (filter-append test xs ys)) (λ e. filter-append test xs ys)

flat-append : {A B : Type 0} (f : A → List B) (xs ys : List A) → flat_map f (xs ++ ys) ≡ flat_map f xs ++ flat_map f ys
flat-append f [] ys = refl
flat-append f (x ∷ xs) ys = ap (λ l. f x ++ l) (flat-append f xs ys) ∙ sym (append_assoc (f x) (flat_map f xs) (flat_map f ys))

pub drop_at : {A : Type 0} (xs : List A) (i : ℕ) (x : A) → slice_get xs i ≡ Some x → drop i xs ≡ x ∷ drop (suc i) xs
drop_at [] i x e = absurd (cc)
drop_at (y ∷ xs) zero x e = let s : y ≡ x = cc in ap (λ k. k ∷ xs) s
drop_at (y ∷ xs) (suc i) x e = drop_at xs i x e

pub drop_before : {A : Type 0} (xs : List A) (i : ℕ) (x : A) → 0 < i → i ≤ length xs → x ≡ get_or xs (i - 1) x → drop (i - 1) xs ≡ x ∷ drop i xs
drop_before xs i x l m e =
    let below : i - 1 < length xs = omega (arith, l, m) in
    let next : suc (i - 1) ≡ i = omega (arith, l) in
    drop_at xs (i - 1) x (slice_get-get_or xs (i - 1) x below ∙ ap Some (sym e)) ∙ ap (λ n. x ∷ drop n xs) next

-- ---- of a body

module _ (test : CapturedLocal → Bool) (owner : ℕ) (vs : List LocalVariable) (v : LocalVariable) (before so_far : List CapturedLocal)
    (e : so_far ≡ before ++ filter test (map (own owner) (reversed vs))) where
  behind : before ++ filter test (map (own owner) (reversed (v ∷ vs))) ≡ so_far ++ filter test (own owner v ∷ [])
  behind = ap (λ l. before ++ filter test l) (map-append (own owner) (reversed vs) (v ∷ [])) ∙ ap (λ l. before ++ l) (filter-append test (map (own owner) (reversed vs)) (own owner v ∷ []))
      ∙ sym (append_assoc before (filter test (map (own owner) (reversed vs))) (filter test (own owner v ∷ []))) ∙ ap (λ l. l ++ filter test (own owner v ∷ [])) (sym e)

  pub one_kept : test (own owner v) ≡ true → so_far ++ own owner v ∷ [] ≡ before ++ filter test (map (own owner) (reversed (v ∷ vs)))
  one_kept t = ap (λ b. so_far ++ cond b (own owner v ∷ []) []) (sym t) ∙ sym behind

  pub one_left : test (own owner v) ≡ false → so_far ≡ before ++ filter test (map (own owner) (reversed (v ∷ vs)))
  one_left t = sym (append-nil so_far) ∙ ap (λ b. so_far ++ cond b (own owner v ∷ []) []) (sym t) ∙ sym behind

-- ---- of the bodies round a class

pub frame_more : (test : CapturedLocal → Bool) (fs : List Frame) (f : Frame) (so_far new : List CapturedLocal) → so_far ≡ filter test (locals_from fs) →
    new ≡ so_far ++ filter test (locals_in f) → new ≡ filter test (locals_from (f ∷ fs))
frame_more test fs f so_far new e n = n ∙ ap (λ l. l ++ filter test (locals_in f)) e ∙ sym (filter-append test (locals_from fs) (locals_in f))
    ∙ ap (λ l. filter test (locals_from fs ++ l)) (sym (append-nil (locals_in f))) ∙ ap (filter test) (sym (flat-append locals_in (reversed fs) (f ∷ [])))

-- ---- of all classes

same-bool : (b d : Bool) → (b ≡ true → d ≡ true) → (d ≡ true → b ≡ true) → b ≡ d
same-bool true d f g = sym (f refl)
same-bool false true f g = g refl
same-bool false false f g = refl

and-true : (a b : Bool) → a ≡ true → b ≡ true → (a && b) ≡ true
and-true a b e f = rw e f

module _ (p : Program) (met : List Met) (keys : List Kept) (all : AreAll p met keys) (round : ℕ → List Frame) where
  kept-captures : (c : ℕ) (l : CapturedLocal) → is_kept keys c l ≡ true → is_captured p met round c l ≡ true
  kept-captures c l e =
      let w = contains-any (is_one c l) keys e in
      let s = and_parts (nat_eq c w.element.class.0) (nat_eq l.owner w.element.owner.0 && nat_eq l.variable.number w.element.local) w.passes in
      let t = and_parts (nat_eq l.owner w.element.owner.0) (nat_eq l.variable.number w.element.local) s.1 in
      subst (λ n. captures_within p met round (length p.source.sites) l.owner l.variable.number n ≡ true) (sym (eqb-true c w.element.class.0 s.0))
      (subst (λ n. captures_within p met round (length p.source.sites) n l.variable.number w.element.class.0 ≡ true) (sym (eqb-true l.owner w.element.owner.0 t.0))
      (subst (λ n. captures_within p met round (length p.source.sites) w.element.owner.0 n w.element.class.0 ≡ true) (sym (eqb-true l.variable.number w.element.local t.1)) (all.only round w.element w.there)))

  captures-kept : (c : ℕ) (l : CapturedLocal) → is_captured p met round c l ≡ true → is_kept keys c l ≡ true
  captures-kept c l e = any-contains (is_one c l) keys (record { class = class_numbered c; owner = class_numbered l.owner; local = l.variable.number })
      (all.has round (record { class = class_numbered c; owner = class_numbered l.owner; local = l.variable.number }) e)
      (and-true _ _ (eq-eqb c c refl) (and-true _ _ (eq-eqb l.owner l.owner refl) (eq-eqb l.variable.number l.variable.number refl)))

  is-captured : (c : ℕ) (l : CapturedLocal) → is_kept keys c l ≡ is_captured p met round c l
  is-captured c l = same-bool (is_kept keys c l) (is_captured p met round c l) (kept-captures c l) (captures-kept c l)

  pub kept_are_captured : (c : ℕ) → filter (is_kept keys c) (locals_from (round c)) ≡ captured_locals p met round c
  unfolding captured_locals
  kept_are_captured c = λ i. filter (λ l. is-captured c l i) (locals_from (round c))

  filter-none : {A : Type 0} (xs : List A) → filter (λ x. false) xs ≡ []
  filter-none [] = refl
  filter-none (x ∷ xs) = filter-none xs

  none-past : (n c : ℕ) (l : CapturedLocal) → length p.source.sites ≤ c → captures_within p met round n l.owner l.variable.number c ≡ false
  none-past n c l past = same-bool (captures_within p met round n l.owner l.variable.number c) false
      (λ e. absurd (within n e)) (λ e. absurd (cc))
    where
      within : (n : ℕ) → captures_within p met round n l.owner l.variable.number c ≡ true → ⊥
      within zero e = absurd (cc)
      within (suc n) e = let m : c < length p.source.sites = outside_within p met round c l.owner (along p met round n l.owner l.variable.number c e).outside in absurd (omega (arith, m, past))

  pub nothing_past : (c : ℕ) → length p.source.sites ≤ c → [] ≡ captured_locals p met round c
  unfolding captured_locals
  nothing_past c past = sym (filter-none (locals_from (round c))) ∙ (λ i. filter (λ l. sym (none-past (length p.source.sites) c l past) i) (locals_from (round c)))

  pub all_captured : (lists : List (Vec Captured Global)) → length lists ≡ length p.source.sites →
      ((c : ℕ) → c < length p.source.sites → captured_seen lists c ≡ filter (is_kept keys c) (locals_from (round c))) →
      (c : ℕ) → captured_seen lists c ≡ captured_locals p met round c
  all_captured lists whole each c = by_either
      (λ l. each c l ∙ kept_are_captured c)
      (λ l. ap locals_of (slice_get_past lists c (subst (λ n. n ≤ c) (sym whole) l)) ∙ nothing_past c l)
      (within_or_past c (length p.source.sites))
