-- A walk over a set of classes in memory.
use Rattle.std.proofs.Common.{◌≡◌, ℕ, zero, suc, ◌+◌, ◌-◌, ◌<◌, ◌≤◌, List, [], ◌∷◌, length, get_or, Option, Some, None, refl, sym, ◌∙◌, ap, subst, arith, add-one}
use Rattle.std.specs.Prelude.{nat_eq, slice_get, map}
use Rattle.std.specs.List.{Contains, IsDistinct}
use Rattle.je_base.specs.declared.span.NameId.{NameId}
use Rattle.je_core.specs.declared.types.ClassId.{ClassId}
use Rattle.je_scopes.specs.Looks.{Look, waits, nothing, a_class, a_variable, unclear, joined}
use Rattle.je_scopes.specs.Source.{Source}
use Rattle.je_scopes.specs.Scope.{Known, declared}
use Rattle.je_scopes.proofs.Either.{nothing-in}
use Rattle.scope_laws.specs.Walks.{above_one, leads_to, brings, inherited_from}
use Rattle.scope_laws.proofs.Gains.{Gains}
use Rattle.scope_laws.proofs.Steps.{IsWalking, walk-goes-on, walk-ends, walk-waits}
use Rattle.name_lookup.specs.View.{numbers}

pub number-at : (cs : List ClassId) (i : ℕ) (c : ClassId) → slice_get cs i ≡ Some c → c.0 ≡ get_or (numbers cs) i 0
number-at cs i c e = by cs i e
  where
    class-in : Option ClassId → ClassId
    class-in None = c
    class-in (Some d) = d

    by : (cs : List ClassId) (i : ℕ) → slice_get cs i ≡ Some c → c.0 ≡ get_or (numbers cs) i 0
    by [] i e = absurd (cc)
    by (d ∷ cs) zero e = sym (ap (λ (o : Option ClassId). (class-in o).0) e)
    by (d ∷ cs) (suc i) e = by cs i e

pub within-numbers : (cs : List ClassId) (i : ℕ) (c : ClassId) → slice_get cs i ≡ Some c → i < length (numbers cs)
within-numbers [] i c e = absurd (cc)
within-numbers (d ∷ cs) zero c e = omega arith
within-numbers (d ∷ cs) (suc i) c e = let l : i < length (numbers cs) = within-numbers cs i c e in omega (arith, l)

pub past-numbers : (cs : List ClassId) (i : ℕ) → slice_get cs i ≡ None → length (numbers cs) ≤ i
past-numbers [] i e = omega arith
past-numbers (d ∷ cs) zero e = absurd (cc)
past-numbers (d ∷ cs) (suc i) e = let l : length (numbers cs) ≤ i = past-numbers cs i e in omega (arith, l)

module _ (p : Source) (known : Known) (x : NameId) (within : (c d : ℕ) (ds : List ℕ) → known c ≡ Some ds → Contains ds d → d < length p.sites) where
  leads-within : (c d : ℕ) → Contains (leads_to p known x c) d → d < length p.sites
  leads-within c d q = by (declared p (Some c) x) (known c) refl q
    where
      by : (look : Look) (o : Option (List ℕ)) → known c ≡ o → Contains (above_one look o) d → d < length p.sites
      by waits o e q = absurd (nothing-in d q)
      by nothing None e q = absurd (nothing-in d q)
      by nothing (Some ds) e q = within c d ds e q
      by (a_class m) o e q = absurd (nothing-in d q)
      by (a_variable m at) o e q = absurd (nothing-in d q)
      by unclear o e q = absurd (nothing-in d q)

  module _ (starts : List ℕ) (keys : List ClassId) (at : ℕ) (found : Look) (w : IsWalking p known x starts (numbers keys) at found) where
    pub walk_on : (class : ClassId) (new : List ClassId) (brought next : Look) → slice_get keys at ≡ Some class → Gains (numbers keys) (numbers new) (leads_to p known x class.0) →
        (IsDistinct nat_eq (numbers keys) → IsDistinct nat_eq (numbers new)) → brought ≡ brings p known x class.0 → next ≡ joined found brought → IsWalking p known x starts (numbers new) (at + 1) next
    walk_on class new brought next g gains d b n =
        let e = number-at keys at class g in
        let s : joined found (brings p known x (get_or (numbers keys) at 0)) ≡ next = sym (n ∙ ap (joined found) (b ∙ ap (brings p known x) e)) in
        rw add-one (subst (IsWalking p known x starts (numbers new) (suc at)) s
        (walk-goes-on p known x starts (numbers keys) (numbers new) at found w (within-numbers keys at class g)
        (subst (λ c. Gains (numbers keys) (numbers new) (leads_to p known x c)) e gains) (d w.distinct) (λ c q. leads-within (get_or (numbers keys) at 0) c q)))

    pub walk_stops : (class : ClassId) (brought : Look) → slice_get keys at ≡ Some class → brought ≡ brings p known x class.0 → brought ≡ waits → brought ≡ inherited_from p known x starts
    walk_stops class brought g b q = q ∙ walk-waits p known x starts (numbers keys) at found w (within-numbers keys at class g) (sym (ap (brings p known x) (number-at keys at class g)) ∙ sym b ∙ q)

    pub walk_done : slice_get keys at ≡ None → found ≡ inherited_from p known x starts
    walk_done g = walk-ends p known x starts (numbers keys) at found w (past-numbers keys at g)

    pub walk_nearer : (class : ClassId) → slice_get keys at ≡ Some class → length p.sites - (at + 1) < length p.sites - at
    walk_nearer class g = let few : length (numbers keys) ≤ length p.sites = w.few in let l = within-numbers keys at class g in omega (arith, few, l)
