-- The member class of a class, by what it declares and what a walk from it finds.
use Rattle.std.proofs.Common.{◌≡◌, ℕ, zero, suc, ◌+◌, ◌-◌, ◌<◌, ◌≤◌, List, [], ◌∷◌, length, Option, Some, None, refl, sym, ◌∙◌, ap, subst, arith}
use Rattle.std.specs.List.{Contains}
use Rattle.je_base.specs.declared.span.NameId.{NameId}
use Rattle.je_classes.proofs.Lists.{contains-here}
use Rattle.je_scopes.specs.Sites.{Site}
use Rattle.je_scopes.specs.Looks.{Look, waits, nothing, a_class, found, joined, joined_over, or_further}
use Rattle.je_scopes.specs.Source.{Source}
use Rattle.je_scopes.specs.Scope.{Known, first_declared, declared, inheritable, from_supers, member_within, member_class}
use Rattle.je_scopes.proofs.Either.{by_either, within_or_past}
use Rattle.scope_laws.specs.Walks.{inherited_from}
use Rattle.scope_laws.proofs.Parts.{joined-nothing}
use Rattle.scope_laws.proofs.Walking.{inherits, classes-inherits, open-member}

none-declared : (ss : List Site) (place : Option ℕ) (x : NameId) → length ss ≡ 0 → first_declared 0 ss place x ≡ None
none-declared [] place x e = refl
none-declared (s ∷ ss) place x e = absurd (omega arith)

module _ (p : Source) (known : Known) (x : NameId) (c : ℕ) where
  -- one step of the recursion
  step : (n : ℕ) → 0 < n → member_within p known n x c ≡ or_further (declared p (Some c) x) (from_supers (λ d. inheritable p (member_within p known (n - 1) x d)) (known c))
  step zero h = absurd (omega arith)
  step (suc n) h = let e : suc n - 1 ≡ n = omega arith in rw e refl

  not-empty : (m : ℕ) → a_class m ≡ declared p (Some c) x → 0 < length p.sites
  not-empty m e = by_either (λ l. l)
      (λ l. let z : length p.sites ≡ 0 = omega arith in let q : found (first_declared 0 p.sites (Some c) x) ≡ nothing = ap found (none-declared p.sites (Some c) x z) in absurd (cc))
      (within_or_past 0 (length p.sites))

  pub own_member : (m : ℕ) → a_class m ≡ declared p (Some c) x → a_class m ≡ member_class p known x c
  own_member m e = sym (step (length p.sites) (not-empty m e) ∙ ap (λ k. or_further k (from_supers (λ d. inheritable p (member_within p known (length p.sites - 1) x d)) (known c))) (sym e))

  pub waiting_member : nothing ≡ declared p (Some c) x → known c ≡ None → c < length p.sites → waits ≡ member_class p known x c
  waiting_member e k l = sym (step (length p.sites) (omega arith) ∙ ap (λ a. or_further a (from_supers (λ d. inheritable p (member_within p known (length p.sites - 1) x d)) (known c))) (sym e)
      ∙ ap (from_supers (λ d. inheritable p (member_within p known (length p.sites - 1) x d))) k)

  no-members : (n : ℕ) → nothing ≡ declared p (Some c) x → known c ≡ Some [] → nothing ≡ member_within p known n x c
  no-members zero e k = refl
  no-members (suc n) e k = sym (ap (λ a. or_further a (from_supers (λ d. inheritable p (member_within p known n x d)) (known c))) (sym e) ∙ ap (from_supers (λ d. inheritable p (member_within p known n x d))) k)

  pub no_member : nothing ≡ declared p (Some c) x → known c ≡ Some [] → nothing ≡ member_class p known x c
  no_member e k = no-members (length p.sites) e k

  -- where a class declares none, a walk from it finds what it has
  pub member_by_walk : nothing ≡ declared p (Some c) x → inherited_from p known x (c ∷ []) ≡ member_class p known x c
  unfolding inherits
  member_by_walk e = joined-nothing (inherits p known x (length p.sites) c) (classes-inherits p known x (length p.sites) c) ∙ open-member p known x (length p.sites) c (sym e)
