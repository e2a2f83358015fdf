-- A walk class by class.
use Rattle.std.proofs.Common.{◌≡◌, ℕ, suc, ◌<◌, ◌≤◌, List, [], length, get_or, sym, subst, arith}
use Rattle.std.specs.Prelude.{true, nat_eq}
use Rattle.std.specs.List.{Contains, IsDistinct}
use Rattle.std.proofs.lemmas.Map.Steps.{length-le_from_distinct_below}
use Rattle.std.proofs.lemmas.Bool.Decides.{nat_tests}
use Rattle.je_base.specs.declared.span.NameId.{NameId}
use Rattle.je_classes.proofs.Lists.{contains-any}
use Rattle.je_scopes.specs.Looks.{Look, waits, nothing, joined}
use Rattle.je_scopes.specs.Source.{Source}
use Rattle.je_scopes.specs.Scope.{Known}
use Rattle.je_scopes.proofs.Either.{by_either, nat_split, within_or_past, nothing-in}
use Rattle.scope_laws.specs.Walks.{leads_to, brings, at_start, one_up, IsMetWithin, inherited_from}
use Rattle.scope_laws.proofs.Parts.{IsPart, none, IsOfClasses, part-antisym, part-trans, part-joined, part-left, part-right, classes-joined, over-part, waits-part}
use Rattle.scope_laws.proofs.Gains.{Gains, place-of, kept-all, gained-or-old}
use Rattle.scope_laws.proofs.Walking.{inherits, classes-brings, brings-part, inherits-part}

pub below-all : (cs : List ℕ) (n : ℕ) → IsDistinct nat_eq cs → ((c : ℕ) → Contains cs c → c < n) → length cs ≤ n
below-all cs n d h = length-le_from_distinct_below cs n d (λ q e. let r = contains-any (nat_eq q) cs e in let t : nat_eq q r.element ≡ true = r.passes in
    let s : q ≡ r.element = grind (arith, nat_tests) in let l : r.element < n = h r.element r.there in omega (arith, s, l))

module _ (p : Source) (known : Known) (x : NameId) (starts : List ℕ) where
  -- the classes met so far, of which the first ones brought what is found
  pub record IsWalking (met : List ℕ) (at : ℕ) (found : Look) : Type 0 where
    pub begins : (c : ℕ) → Contains starts c → Contains met c
    pub goes_on : (i : ℕ) → i < at → (d : ℕ) → Contains (leads_to p known x (get_or met i 0)) d → Contains met d
    pub in_turn : (i : ℕ) → i < length met → IsMetWithin p known x starts i (get_or met i 0)
    pub within : (c : ℕ) → Contains met c → c < length p.sites
    pub distinct : IsDistinct nat_eq met
    pub few : length met ≤ length p.sites
    pub so_far : at ≤ length met
    pub has : (i : ℕ) → i < at → IsPart (brings p known x (get_or met i 0)) found
    pub least : IsPart found (inherited_from p known x starts)
    pub plain : IsOfClasses found

  pub walk-begins : (met : List ℕ) → Gains [] met starts → IsDistinct nat_eq met → ((c : ℕ) → Contains starts c → c < length p.sites) → IsWalking met 0 nothing
  walk-begins met g d h = let within : (c : ℕ) → Contains met c → c < length p.sites = λ c q. by_either (λ r. absurd (nothing-in c r)) (h c) (gained-or-old g c q) in record {
    begins = g.has;
    goes_on = λ i l. absurd (let k : i < 0 = l in omega (arith, k));
    in_turn = λ i l. record { steps = 0; few = omega arith; met = at_start (g.only i (omega arith) l) };
    within = within;
    distinct = d;
    few = below-all met (length p.sites) d within;
    so_far = omega arith;
    has = λ i l. absurd (let k : i < 0 = l in omega (arith, k));
    least = none;
    plain = tt;
  }

  part-of : (met : List ℕ) (at : ℕ) (found : Look) → IsWalking met at found → at < length met → IsPart (brings p known x (get_or met at 0)) (inherited_from p known x starts)
  unfolding inherits
  part-of met at found w l = let few : length met ≤ length p.sites = w.few in brings-part p known x starts at (get_or met at 0) (omega (arith, few, l)) (w.in_turn at l)

  pub walk-goes-on : (met new : List ℕ) (at : ℕ) (found : Look) → IsWalking met at found → at < length met → Gains met new (leads_to p known x (get_or met at 0)) → IsDistinct nat_eq new →
      ((c : ℕ) → Contains (leads_to p known x (get_or met at 0)) c → c < length p.sites) → IsWalking new (suc at) (joined found (brings p known x (get_or met at 0)))
  walk-goes-on met new at found w l g d h =
      let so_far : at ≤ length met = w.so_far in
      let longer : length met ≤ length new = g.longer in
      let within : (c : ℕ) → Contains new c → c < length p.sites = λ c q. by_either (w.within c) (h c) (gained-or-old g c q) in
      let old : (i : ℕ) → i < suc at → get_or new i 0 ≡ get_or met i 0 = λ i k. g.kept i (let m : i < suc at = k in omega (arith, m, l)) in
      record {
        begins = λ c q. kept-all g c (w.begins c q);
        goes_on = λ i k c q. let r : Contains (leads_to p known x (get_or met i 0)) c = subst (λ e. Contains (leads_to p known x e) c) (old i k) q in
            by_either (λ e. g.has c (subst (λ j. Contains (leads_to p known x (get_or met j 0)) c) e r)) (λ m. kept-all g c (w.goes_on i m c r)) (nat_split i at k);
        in_turn = λ i k. by_either
            (λ m. subst (IsMetWithin p known x starts i) (sym (g.kept i m)) (w.in_turn i m))
            (λ m. let t = w.in_turn at l in let few : t.steps ≤ at = t.few in let m' : length met ≤ i = m in record { steps = suc t.steps; few = omega (arith, few, m', l); met = one_up t.met (g.only i m k) })
            (within_or_past i (length met));
        within = within;
        distinct = d;
        few = below-all new (length p.sites) d within;
        so_far = omega (arith, l, longer);
        has = λ i k. let a : IsPart (brings p known x (get_or met i 0)) (joined found (brings p known x (get_or met at 0))) =
            by_either (λ e. subst (λ j. IsPart (brings p known x (get_or met j 0)) (joined found (brings p known x (get_or met at 0)))) (sym e) (part-right found (brings p known x (get_or met at 0)) (classes-brings p known x (get_or met at 0))))
            (λ m. part-trans (w.has i m) (part-left found (brings p known x (get_or met at 0)) w.plain)) (nat_split i at k) in
            subst (λ e. IsPart (brings p known x e) (joined found (brings p known x (get_or met at 0)))) (sym (old i k)) a;
        least = part-joined w.least (part-of met at found w l);
        plain = classes-joined found (brings p known x (get_or met at 0)) w.plain (classes-brings p known x (get_or met at 0));
      }

  pub walk-ends : (met : List ℕ) (at : ℕ) (found : Look) → IsWalking met at found → length met ≤ at → found ≡ inherited_from p known x starts
  unfolding inherits
  walk-ends met at found w l = part-antisym w.least
      (over-part (inherits p known x (length p.sites)) starts found (λ c q. inherits-part p known x met found
      (λ c d r s. let k = place-of met c r in let m : k.at < length met = k.within in w.goes_on k.at (omega (arith, m, l)) d (subst (λ e. Contains (leads_to p known x e) d) (sym k.is) s))
      (λ c r. let k = place-of met c r in let m : k.at < length met = k.within in subst (λ e. IsPart (brings p known x e) found) k.is (w.has k.at (omega (arith, m, l))))
      (length p.sites) c (w.begins c q)))

  pub walk-waits : (met : List ℕ) (at : ℕ) (found : Look) → IsWalking met at found → at < length met → brings p known x (get_or met at 0) ≡ waits → waits ≡ inherited_from p known x starts
  walk-waits met at found w l e = sym (waits-part (subst (λ (a : Look). IsPart a (inherited_from p known x starts)) e (part-of met at found w l)))
