-- What classes capture along ways of so many classes.
use Rattle.std.proofs.Common.{◌≡◌, ℕ, zero, suc, ◌<◌, ◌≤◌, List, length, refl, ◌∙◌, ap, subst, arith, inl, inr, eq-eqb}
use Rattle.std.specs.Prelude.{◌⊎◌, ◌&&◌, ◌||◌, Bool, true, false, nat_eq, Option, slice_get}
use Rattle.std.specs.List.{Contains, list_any}
use Rattle.std.proofs.lemmas.Bool.{and_parts, eqb-true, or_cases}
use Rattle.std.proofs.lemmas.Option.{slice_get_past}
use Rattle.je_classes.proofs.Lists.{Passing, any-contains, contains-any}
use Rattle.je_scopes.specs.Headers.{or_nothing}
use Rattle.je_scopes.specs.Sites.{Site}
use Rattle.je_scopes.proofs.Either.{by_either, nat_split, within_or_past}
use Rattle.name_typing.specs.Program.{Frame, Program}
use Rattle.body_typing.specs.Bodies.{Met}
use Rattle.body_typing.specs.Bodies as met_in
use Rattle.class_typing.specs.Captures.{captures_within, classes_near, is_capture, is_outside}

module _ (p : Program) (met : List Met) (round : ℕ → List Frame) where
  -- ---- a local that a body names

  named-so : (c owner local : ℕ) (m : Met) → is_capture p met round c owner local m ≡ true → m ≡ met_in.captures c owner local
  named-so c owner local (met_in.captures within of n) e =
      let s = and_parts (nat_eq within c && nat_eq of owner) (nat_eq n local) e in
      let t = and_parts (nat_eq within c) (nat_eq of owner) s.0 in
      ap (λ x. met_in.captures x of n) (eqb-true within c t.0) ∙ ap (λ x. met_in.captures c x n) (eqb-true of owner t.1) ∙ ap (met_in.captures c owner) (eqb-true n local s.1)
  named-so c owner local (met_in.makes w d) e = absurd (cc)
  named-so c owner local (met_in.stands d s) e = absurd (cc)
  named-so c owner local (met_in.stands_behind_new d s word t es) e = absurd (cc)

  pub named : (c owner local : ℕ) → list_any (is_capture p met round c owner local) met ≡ true → Contains met (met_in.captures c owner local)
  named c owner local e = let w = contains-any (is_capture p met round c owner local) met e in
      subst (Contains met) (named-so c owner local w.element w.passes) w.there

  and-true : (a b : Bool) → a ≡ true → b ≡ true → (a && b) ≡ true
  and-true a b e f = rw e f

  pub is_named : (c owner local : ℕ) → Contains met (met_in.captures c owner local) → list_any (is_capture p met round c owner local) met ≡ true
  is_named c owner local q = any-contains (is_capture p met round c owner local) met (met_in.captures c owner local) q
      (and-true (nat_eq c c && nat_eq owner owner) (nat_eq local local) (and-true (nat_eq c c) (nat_eq owner owner) (eq-eqb c c refl) (eq-eqb owner owner refl)) (eq-eqb local local refl))

  -- ---- one class more on a way

  abbrev pub Captures : ℕ → ℕ → ℕ → ℕ → Type 0
  Captures n owner local c = captures_within p met round n owner local c ≡ true

  pub record Along (n owner local c : ℕ) : Type 0 where
    pub outside : is_outside p met round c owner ≡ true
    pub by : Contains met (met_in.captures c owner local) ⊎ Passing (captures_within p met round n owner local) (classes_near p met round c)

  pub along : (n owner local c : ℕ) → Captures (suc n) owner local c → Along n owner local c
  along n owner local c e =
      let s = and_parts (is_outside p met round c owner) (list_any (is_capture p met round c owner local) met || list_any (captures_within p met round n owner local) (classes_near p met round c)) e in
      record {
        outside = s.0;
        by = by_either (λ r. inl (named c owner local r)) (λ r. inr (contains-any (captures_within p met round n owner local) (classes_near p met round c) r))
            (or_cases (list_any (is_capture p met round c owner local) met) (list_any (captures_within p met round n owner local) (classes_near p met round c)) s.1);
      }

  or-left : (a b : Bool) → a ≡ true → (a || b) ≡ true
  or-left a b e = rw e refl

  or-right : (a b : Bool) → b ≡ true → (a || b) ≡ true
  or-right true b e = refl
  or-right false b e = e

  pub by_name : (n owner local c : ℕ) → is_outside p met round c owner ≡ true → Contains met (met_in.captures c owner local) → Captures (suc n) owner local c
  by_name n owner local c o q = and-true (is_outside p met round c owner) _ o (or-left _ _ (is_named c owner local q))

  pub by_near : (n owner local c d : ℕ) → is_outside p met round c owner ≡ true → Contains (classes_near p met round c) d → Captures n owner local d → Captures (suc n) owner local c
  by_near n owner local c d o q e = and-true (is_outside p met round c owner) _ o
      (or-right _ _ (any-contains (captures_within p met round n owner local) (classes_near p met round c) d q e))

  -- ---- longer ways

  pub longer_by_one : (n owner local c : ℕ) → Captures n owner local c → Captures (suc n) owner local c
  longer_by_one zero owner local c e = absurd (cc)
  longer_by_one (suc n) owner local c e = let w = along n owner local c e in by_either (λ q. by_name (suc n) owner local c w.outside q)
      (λ (q : Passing (captures_within p met round n owner local) (classes_near p met round c)). by_near (suc n) owner local c q.element w.outside q.there (longer_by_one n owner local q.element q.passes)) w.by

  pub longer_ways : (m n owner local c : ℕ) → m ≤ n → Captures m owner local c → Captures n owner local c
  longer_ways m zero owner local c h e = let s : m ≡ 0 = omega (arith, h) in subst (λ k. Captures k owner local c) s e
  longer_ways m (suc n) owner local c h e = by_either (λ s. subst (λ k. Captures k owner local c) s e)
      (λ l. let k : m < suc n = l in longer_by_one n owner local c (longer_ways m n owner local c (omega (arith, k)) e)) (nat_split m (suc n) (omega (arith, h)))

  -- ---- nothing is outside a class that isn't there

  pub outside_within : (c owner : ℕ) → is_outside p met round c owner ≡ true → c < length p.source.sites
  outside_within c owner e = by_either (λ l. l)
      (λ l. absurd (let none : list_any (nat_eq owner) (or_nothing (slice_get p.source.sites c)).spot.round ≡ false = ap (λ (o : Option Site). list_any (nat_eq owner) (or_nothing o).spot.round) (slice_get_past p.source.sites c l) in cc))
      (within_or_past c (length p.source.sites))
