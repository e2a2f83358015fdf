-- Rounds by which all that classes capture is come by.
use Rattle.std.proofs.Common.{◌≡◌, ℕ, zero, suc, ◌<◌, ◌≤◌, List, [], ◌∷◌, length, get_or, Some, refl, sym, ◌∙◌, ap, subst, arith, inl, inr, length-append}
use Rattle.std.specs.Prelude.{◌⊎◌, true, slice_get}
use Rattle.std.specs.List.{Contains}
use Rattle.std.proofs.lemmas.Option.{slice_get-get_or, slice_get_within}
use Rattle.je_core.specs.declared.types.ClassId.{ClassId}
use Rattle.je_classes.proofs.Lists.{Passing, contains-here, contains-later}
use Rattle.je_scopes.proofs.Either.{by_either, within_or_past}
use Rattle.je_scopes.proofs.Lists.{in-either}
use Rattle.name_walk.proofs.Standing.{slice_get-append}
use Rattle.source_types.specs.Erasure.{class_numbered}
use Rattle.name_typing.specs.Program.{Frame, Program}
use Rattle.body_typing.specs.Bodies.{Met}
use Rattle.class_typing.specs.Captures.{captures_within, classes_near}
use Rattle.class_places.specs.declared.kept.Kept.{Kept}
use Rattle.class_places.specs.declared.users.Users.{Users}
use Rattle.class_places.specs.way.Kept.{AreAll, Gains, IsDirect, IsHandedOn, IsHandedTo, IsOutside, IsSoFar, captures_in}
use Rattle.class_places.specs.way.Users.{AreUsers, users_of}
use Rattle.class_places.proofs.Gained.{kept-all}
use Rattle.class_places.proofs.Ways.{along, by_name, by_near, longer_by_one, longer_ways, outside_within}

contains-get : {A : Type 0} (xs : List A) (i : ℕ) (x : A) → slice_get xs i ≡ Some x → Contains xs x
contains-get [] i x e = absurd (cc)
contains-get (y ∷ xs) zero x e = let s : y ≡ x = cc in subst (Contains (y ∷ xs)) s (contains-here y xs)
contains-get (y ∷ xs) (suc i) x e = contains-later y x xs (contains-get xs i x e)

-- the place of an element
record Place {A : Type 0} (xs : List A) (x : A) : Type 0 where
  at : ℕ
  there : slice_get xs at ≡ Some x

get-by : {A : Type 0} (xs : List A) (i : ℕ) (x : A) → i < length xs → get_or xs i x ≡ x → slice_get xs i ≡ Some x
get-by xs i x l e = slice_get-get_or xs i x l ∙ ap Some e

place-of : {A : Type 0} (xs : List A) (x : A) → Contains xs x → Place xs x
place-of xs x q = record { at = q.0; there = get-by xs q.0 x q.1 q.2 }

module _ (p : Program) (met : List Met) (u : Users) (us : AreUsers p met u) where
  abbrev of-class : ℕ → Kept → Kept
  of-class x k = record { class = class_numbered x; owner = k.owner; local = k.local }

  -- what another class captures makes a class capture it
  record From (keys : List Kept) (k : Kept) : Type 0 where
    at : ℕ
    within : at < length keys
    one : Kept
    there : slice_get keys at ≡ Some one
    handed : IsHandedTo (users_of u one.class.0) one k

  from-near : (round : ℕ → List Frame) (keys : List Kept) (k : Kept) (x : ℕ) → IsOutside p k → Contains (classes_near p met round k.class.0) x →
      x < length p.source.sites → Contains keys (of-class x k) → From keys k
  from-near round keys k x o q l r = let w = place-of keys (of-class x k) r in record {
    at = w.at;
    within = slice_get_within keys w.at (of-class x k) w.there;
    one = of-class x k;
    there = w.there;
    handed = record {
      user = us.has round x k.class.0 l (outside_within p met round k.class.0 k.owner.0 o) q;
      owner = refl;
      local = refl;
    };
  }

  handed-on : (keys : List Kept) (start end : ℕ) (k : Kept) (w : From keys k) → start ≤ w.at → w.at < end → IsHandedOn u keys start end k
  handed-on keys start end k w l m = record { at = w.at; from = l; before = m; one = w.one; there = w.there; handed = w.handed }

  handed-captures : (round : ℕ → List Frame) (n start end : ℕ) (keys : List Kept) → ((k : Kept) → Contains keys k → captures_in p met round n k ≡ true) →
      (k : Kept) → IsOutside p k → IsHandedOn u keys start end k → captures_in p met round (suc n) k ≡ true
  handed-captures round n start end keys only k o h =
      by_near p met round n k.owner.0 k.local k.class.0 h.one.class.0 o (us.only round h.one.class.0 k.class.0 h.handed.user)
      (subst (λ (w : ClassId). captures_within p met round n w.0 k.local h.one.class.0 ≡ true) (sym h.handed.owner)
      (subst (λ m. captures_within p met round n h.one.owner.0 m h.one.class.0 ≡ true) (sym h.handed.local) (only h.one (contains-get keys h.at h.one h.there))))

  -- ---- what bodies name

  pub rounds_begin : (keys : List Kept) → Gains p (IsDirect met) [] keys → IsSoFar p met u 1 0 keys
  rounds_begin keys g = record {
    few = omega arith;
    only = λ round k q. let r : Contains g.added k = subst (λ (l : List Kept). Contains l k) g.longer q in
        by_name p met round 0 k.owner.0 k.local k.class.0 (g.outside k r) (g.only k r);
    has = λ round k e. let w = along p met round 0 k.owner.0 k.local k.class.0 e in
        by_either (λ q. g.has k w.outside q) (λ (q : Passing (captures_within p met round 0 k.owner.0 k.local) (classes_near p met round k.class.0)). absurd (none round k q.element q.passes)) w.by;
    handed = λ k o h. let l : h.at < 0 = h.before in absurd (omega (arith, l));
  }
    where
      none : (round : ℕ → List Frame) (k : Kept) (x : ℕ) → captures_within p met round 0 k.owner.0 k.local x ≡ true → ⊥
      none round k x e = absurd (cc)

  -- ---- one round more

  module _ (n start : ℕ) (keys : List Kept) (some : 0 < n) (w : IsSoFar p met u n start keys) where
    by-name : (round : ℕ → List Frame) (k : Kept) → IsOutside p k → IsDirect met k → Contains keys k
    by-name round k o q = w.has round k (longer_ways p met round 1 n k.owner.0 k.local k.class.0 (omega (arith, some)) (by_name p met round 0 k.owner.0 k.local k.class.0 o q))

    near-within : (round : ℕ → List Frame) (m owner local x : ℕ) → captures_within p met round m owner local x ≡ true → x < length p.source.sites
    near-within round zero owner local x e = absurd (cc)
    near-within round (suc m) owner local x e = outside_within p met round x owner (along p met round m owner local x e).outside

    module _ (new : List Kept) (g : Gains p (IsHandedOn u keys start (length keys)) keys new) where
      stays : (k : Kept) → Contains keys k → Contains new k
      stays k q = kept-all p (IsHandedOn u keys start (length keys)) keys new g k q

      from-all : (k : Kept) → IsOutside p k → From keys k → Contains new k
      from-all k o f = by_either (λ l. stays k (w.handed k o (handed-on keys 0 start k f (omega arith) l)))
          (λ l. g.has k o (handed-on keys start (length keys) k f l f.within)) (within_or_past f.at start)

      rounds_go_on : IsSoFar p met u (suc n) (length keys) new
      rounds_go_on = record {
        few = subst (λ (l : List Kept). length keys ≤ length l) (sym g.longer) (omega (arith, length-append keys g.added));
        only = λ round k q. by_either (λ r. longer_by_one p met round n k.owner.0 k.local k.class.0 (w.only round k r))
            (λ r. handed-captures round n start (length keys) keys (w.only round) k (g.outside k r) (g.only k r))
            (in-either keys g.added k (subst (λ (l : List Kept). Contains l k) g.longer q));
        has = λ round k e. let a = along p met round n k.owner.0 k.local k.class.0 e in by_either
            (λ q. stays k (by-name round k a.outside q))
            (λ (q : Passing (captures_within p met round n k.owner.0 k.local) (classes_near p met round k.class.0)). from-all k a.outside
            (from-near round keys k q.element a.outside q.there (near-within round n k.owner.0 k.local q.element q.passes) (w.has round (of-class q.element k) q.passes)))
            a.by;
        handed = λ k o h. let l : h.at < length keys = h.before in from-all k o (record {
          at = h.at;
          within = h.before;
          one = h.one;
          there = sym (slice_get-append keys g.added h.at l) ∙ ap (λ (ls : List Kept). slice_get ls h.at) (sym g.longer) ∙ h.there;
          handed = h.handed;
        });
      }

      pub next_round : (m end : ℕ) → m ≡ suc n → end ≡ length keys → IsSoFar p met u m end new
      next_round m end e f = subst (λ k. IsSoFar p met u k end new) (sym e) (subst (λ k. IsSoFar p met u (suc n) k new) (sym f) rounds_go_on)

    -- ---- the last round

    all-only : (n ≤ length p.source.sites ⊎ length p.source.sites < 1) → (round : ℕ → List Frame) (k : Kept) → Contains keys k → captures_in p met round (length p.source.sites) k ≡ true
    all-only few round k q = let e = w.only round k q in by_either
        (λ l. longer_ways p met round n (length p.source.sites) k.owner.0 k.local k.class.0 l e)
        (λ l. let m : k.class.0 < length p.source.sites = near-within round n k.owner.0 k.local k.class.0 e in absurd (omega (arith, l, m))) few

    pub rounds_end : (n ≤ length p.source.sites ⊎ length p.source.sites < 1) → length p.source.sites ≤ n → AreAll p met keys
    rounds_end few l = record {
      only = all-only few;
      has = λ round k e. w.has round k (longer_ways p met round (length p.source.sites) n k.owner.0 k.local k.class.0 l e);
    }

    closed : start ≡ length keys → (round : ℕ → List Frame) (m : ℕ) (k : Kept) → captures_in p met round m k ≡ true → Contains keys k
    closed same round zero k e = absurd (cc)
    closed same round (suc m) k e = let a = along p met round m k.owner.0 k.local k.class.0 e in by_either
        (λ q. by-name round k a.outside q)
        (λ (q : Passing (captures_within p met round m k.owner.0 k.local) (classes_near p met round k.class.0)).
        let f = from-near round keys k q.element a.outside q.there (near-within round m k.owner.0 k.local q.element q.passes) (closed same round m (of-class q.element k) q.passes) in
        w.handed k a.outside (handed-on keys 0 start k f (omega arith) (subst (λ i. f.at < i) (sym same) f.within)))
        a.by

    pub rounds_stop : (n ≤ length p.source.sites ⊎ length p.source.sites < 1) → start ≡ length keys → AreAll p met keys
    rounds_stop few same = record { only = all-only few; has = λ round k e. closed same round (length p.source.sites) k e }

    -- after as many rounds as there are classes
    pub rounds_done : (1 ≤ length p.source.sites → n ≤ length p.source.sites) → length p.source.sites ≤ n → AreAll p met keys
    rounds_done few l = by_either (λ m. rounds_end (inr m) l) (λ m. rounds_end (inl (few m)) l) (within_or_past (length p.source.sites) 1)
