-- Ways from class to class, and those that lead back.
use Rattle.std.proofs.Common.{◌≡◌, ◌≢◌, ℕ, zero, suc, ◌+◌, ◌<◌, ◌≤◌, List, [], length, get_or, set, refl, sym, ◌∙◌, ap, subst, arith, inl, inr}
use Rattle.std.specs.Prelude.{true, ◌⊎◌, ◌↔◌, nat_eq, slice_index}
use Rattle.std.specs.List.{Contains, IsDistinct}
use Rattle.std.proofs.lemmas.List.{get_or-set_same, get_or-set_other}
use Rattle.je_scopes.specs.Source.{Source}
use Rattle.je_scopes.specs.Settled.{dependences, Depends, direct, onward, depends}
use Rattle.je_scopes.proofs.Dependence.{depends_is_decided}
use Rattle.je_scopes.proofs.Either.{by_either, nat_split, nothing-in}
use Rattle.scope_laws.proofs.Gains.{Gains, place-of, at-place, kept-all, gained-or-old}
use Rattle.scope_laws.proofs.Steps.{below-all}
use Rattle.scope_laws.specs.Laws.{RankedIsFree, DependsByWays}
use Rattle.scope_laws.specs.Ways.{Leads, at_once, further, IsGrounding}

pub nat_either : (m n : ℕ) → (m ≡ n) ⊎ (m ≢ n)
nat_either zero zero = inl refl
nat_either zero (suc n) = inr (λ e. absurd (omega (arith, e)))
nat_either (suc m) zero = inr (λ e. absurd (omega (arith, e)))
nat_either (suc m) (suc n) = by_either (λ e. inl (ap suc e)) (λ k. inr (λ e. k (omega (arith, e)))) (nat_either m n)

module _ (edges : ℕ → List ℕ) where
  pub then : {c d e : ℕ} → Leads edges c d → Contains (edges d) e → Leads edges c e
  then (at_once q) r = further q (at_once r)
  then (further q k) r = further q (then k r)

  -- ---- ranks

  record Lower (ranks : List ℕ) (c d : ℕ) : Type 0 where
    some : 0 < slice_index ranks d
    lower : slice_index ranks d < slice_index ranks c

  lower-ranks : (ranks : List ℕ) → IsGrounding edges ranks → {c d : ℕ} → Leads edges c d → 0 < slice_index ranks c → Lower ranks c d
  lower-ranks ranks g (at_once {c = c} {d = d} q) l = record { some = g.has c d l q; lower = g.falls c d l q }
  lower-ranks ranks g (further {c = c} {d = d} {e = e} q r) l =
      let a : slice_index ranks d < slice_index ranks c = g.falls c d l q in
      let w = lower-ranks ranks g r (g.has c d l q) in
      let b : slice_index ranks e < slice_index ranks d = w.lower in
      record { some = w.some; lower = omega (arith, a, b) }

  pub ranked-free : (ranks : List ℕ) → IsGrounding edges ranks → (c : ℕ) → 0 < slice_index ranks c → Leads edges c c → ⊥
  ranked-free ranks g c l w = let r = lower-ranks ranks g w l in let k : slice_index ranks c < slice_index ranks c = r.lower in absurd (omega (arith, k))

  pub grounding-start : (ranks : List ℕ) → ((c : ℕ) → slice_index ranks c ≡ 0) → IsGrounding edges ranks
  grounding-start ranks z = record {
    has = λ c d l q. absurd (let e : slice_index ranks c ≡ 0 = z c in let k : 0 < slice_index ranks c = l in omega (arith, e, k));
    falls = λ c d l q. absurd (let e : slice_index ranks c ≡ 0 = z c in let k : 0 < slice_index ranks c = l in omega (arith, e, k));
  }

  -- one more rank, higher than all
  module _ (ranks : List ℕ) (at rank : ℕ) (g : IsGrounding edges ranks) (least : (c : ℕ) → slice_index ranks c < rank) (within : at < length ranks) (new : slice_index ranks at ≡ 0)
      (above : (d : ℕ) → Contains (edges at) d → 0 < slice_index ranks d) where
    here : slice_index (set ranks at rank) at ≡ rank
    here = get_or-set_same ranks at rank 0 within

    other : (c : ℕ) → c ≢ at → slice_index (set ranks at rank) c ≡ slice_index ranks c
    other c n = get_or-set_other ranks at c rank 0 n

    had : (c : ℕ) → 0 < slice_index ranks c → slice_index (set ranks at rank) c ≡ slice_index ranks c
    had c l = other c (λ e. let k : slice_index ranks c ≡ 0 = ap (slice_index ranks) e ∙ new in omega (arith, k, l))

    pub grounding-more : IsGrounding edges (set ranks at rank)
    grounding-more = record {
      has = λ c d l q. by_either
          (λ (e : c ≡ at). let k : 0 < slice_index ranks d = above d (subst (λ n. Contains (edges n) d) e q) in subst (λ n. 0 < n) (sym (had d k)) k)
          (λ n. let k : 0 < slice_index ranks d = g.has c d (subst (λ m. 0 < m) (other c n) l) q in subst (λ m. 0 < m) (sym (had d k)) k)
          (nat_either c at);
      falls = λ c d l q. by_either
          (λ (e : c ≡ at). let k : 0 < slice_index ranks d = above d (subst (λ n. Contains (edges n) d) e q) in
          let s : slice_index (set ranks at rank) d ≡ slice_index ranks d = had d k in
          let t : slice_index (set ranks at rank) c ≡ rank = ap (slice_index (set ranks at rank)) e ∙ here in
          let u : slice_index ranks d < rank = least d in omega (arith, s, t, u))
          (λ n. let m : 0 < slice_index ranks c = subst (λ m. 0 < m) (other c n) l in
          let k : 0 < slice_index ranks d = g.has c d m q in
          let s : slice_index (set ranks at rank) d ≡ slice_index ranks d = had d k in
          let t : slice_index (set ranks at rank) c ≡ slice_index ranks c = other c n in
          let u : slice_index ranks d < slice_index ranks c = g.falls c d m q in omega (arith, s, t, u))
          (nat_either c at);
    }

    pub least-more : (c : ℕ) → slice_index (set ranks at rank) c ≤ rank
    least-more c = by_either
        (λ (e : c ≡ at). let t : slice_index (set ranks at rank) c ≡ rank = ap (slice_index (set ranks at rank)) e ∙ here in omega (arith, t))
        (λ n. let t : slice_index (set ranks at rank) c ≡ slice_index ranks c = other c n in let u : slice_index ranks c < rank = least c in omega (arith, t, u))
        (nat_either c at)

  -- ---- all to which a class leads

  -- classes to which a class leads, of which the first ones have been gone through
  pub record IsClosing (n start : ℕ) (met : List ℕ) (at : ℕ) : Type 0 where
    pub begins : (d : ℕ) → Contains (edges start) d → Contains met d
    pub goes_on : (i : ℕ) → i < at → (d : ℕ) → Contains (edges (get_or met i 0)) d → Contains met d
    pub sound : (d : ℕ) → Contains met d → Leads edges start d
    pub within : (d : ℕ) → Contains met d → d < n
    pub distinct : IsDistinct nat_eq met
    pub few : length met ≤ n
    pub so_far : at ≤ length met

  pub closing-begins : (n start : ℕ) (met : List ℕ) → Gains [] met (edges start) → IsDistinct nat_eq met → ((c d : ℕ) → Contains (edges c) d → d < n) → IsClosing n start met 0
  closing-begins n start met g u h = let within : (d : ℕ) → Contains met d → d < n = λ d q. by_either (λ r. absurd (nothing-in d r)) (h start d) (gained-or-old g d q) in record {
    begins = g.has;
    goes_on = λ i l. absurd (let k : i < 0 = l in omega (arith, k));
    sound = λ d q. by_either (λ r. absurd (nothing-in d r)) at_once (gained-or-old g d q);
    within = within;
    distinct = u;
    few = below-all met n u within;
    so_far = omega arith;
  }

  pub closing-goes-on : (n start : ℕ) (met new : List ℕ) (at : ℕ) → IsClosing n start met at → at < length met → Gains met new (edges (get_or met at 0)) → IsDistinct nat_eq new → ((c d : ℕ) → Contains (edges c) d → d < n) → IsClosing n start new (at + 1)
  closing-goes-on n start met new at w l g u h =
      let longer : length met ≤ length new = g.longer in
      let within : (d : ℕ) → Contains new d → d < n = λ d q. by_either (w.within d) (h (get_or met at 0) d) (gained-or-old g d q) in
      record {
        begins = λ d q. kept-all g d (w.begins d q);
        goes_on = λ i k d q. let m : i < at + 1 = k in let k' : i < suc at = omega (arith, m) in
            let e : get_or new i 0 ≡ get_or met i 0 = g.kept i (omega (arith, m, l)) in
            let r : Contains (edges (get_or met i 0)) d = subst (λ j. Contains (edges j) d) e q in
            by_either (λ s. g.has d (subst (λ j. Contains (edges (get_or met j 0)) d) s r)) (λ s. kept-all g d (w.goes_on i s d r)) (nat_split i at k');
        sound = λ d q. by_either (w.sound d) (λ r. then (w.sound (get_or met at 0) (at-place (get_or met at 0) met at l refl)) r) (gained-or-old g d q);
        within = within;
        distinct = u;
        few = below-all new n u within;
        so_far = omega (arith, l, longer);
      }

  closed-all : (n start : ℕ) (met : List ℕ) (at : ℕ) → IsClosing n start met at → length met ≤ at → {c d : ℕ} → Contains met c → Leads edges c d → Contains met d
  closed-all n start met at w l q (at_once {c = c} {d = d} r) = let k = place-of met c q in let m : k.at < length met = k.within in w.goes_on k.at (omega (arith, m, l)) d (subst (λ j. Contains (edges j) d) (sym k.is) r)
  closed-all n start met at w l q (further {c = c} {d = d} r s) = closed-all n start met at w l (let k = place-of met c q in let m : k.at < length met = k.within in w.goes_on k.at (omega (arith, m, l)) d (subst (λ j. Contains (edges j) d) (sym k.is) r)) s

  pub closing-ends : (n start : ℕ) (met : List ℕ) (at : ℕ) → IsClosing n start met at → length met ≤ at → (d : ℕ) → Contains met d ↔ Leads edges start d
  closing-ends n start met at w l d = (w.sound d, by)
    where
      by : Leads edges start d → Contains met d
      by (at_once q) = w.begins _ q
      by (further {d = e} q r) = closed-all n start met at w l (w.begins e q) r

-- ---- dependence

module _ (p : Source) (edges : ℕ → List ℕ) (right : (c : ℕ) → edges c ≡ dependences p c) where
  to-depends : {c d : ℕ} → Leads edges c d → Depends p c d
  to-depends (at_once {c = c} {d = d} q) = direct (subst (λ (l : List ℕ). Contains l d) (right c) q)
  to-depends (further {c = c} {d = d} q r) = onward (subst (λ (l : List ℕ). Contains l d) (right c) q) (to-depends r)

  to-leads : {c d : ℕ} → Depends p c d → Leads edges c d
  to-leads (direct {c = c} {d = d} q) = at_once (subst (λ (l : List ℕ). Contains l d) (sym (right c)) q)
  to-leads (onward {c = c} {d = d} q r) = further (subst (λ (l : List ℕ). Contains l d) (sym (right c)) q) (to-leads r)

  pub depends_by : (c d : ℕ) → (depends p c d ≡ true) ↔ Leads edges c d
  depends_by c d = (λ e. to-leads ((depends_is_decided p c d).0 e), λ w. (depends_is_decided p c d).1 (to-depends w))

pub ranked_is_free : RankedIsFree
ranked_is_free edges ranks g c l w = ranked-free edges ranks g c l w

pub depends_by_ways : DependsByWays
depends_by_ways p edges right c d = depends_by p edges right c d
