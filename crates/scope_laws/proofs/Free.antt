-- Where no class has a name, no look-up of it finds one.
use Rattle.std.proofs.Common.{◌≡◌, ℕ, zero, suc, List, [], ◌∷◌, length, Some, refl, ◌∙◌, ap}
use Rattle.std.specs.Prelude.{Bool, true}
use Rattle.std.specs.List.{Contains}
use Rattle.je_base.specs.declared.span.NameId.{NameId}
use Rattle.je_classes.proofs.Lists.{contains-here, contains-later}
use Rattle.je_scopes.specs.Looks.{Look, nothing, joined, joined_over, or_further}
use Rattle.je_scopes.specs.Source.{Source}
use Rattle.je_scopes.specs.Scope.{Known, declared, inheritable, from_supers, member_within}
use Rattle.scope_laws.specs.Walks.{AreKnown}
use Rattle.scope_laws.specs.Laws.{NothingIsFound}

all-nothing : (f : ℕ → Look) (cs : List ℕ) → ((c : ℕ) → Contains cs c → f c ≡ nothing) → joined_over f cs ≡ nothing
all-nothing f [] h = refl
all-nothing f (c ∷ cs) h = ap (λ a. joined a (joined_over f cs)) (h c (contains-here c cs)) ∙ all-nothing f cs (λ d q. h d (contains-later c d cs q))

module _ (p : Source) (known : Known) (x : NameId) (clear : ℕ → Bool) (all : AreKnown known clear) (none : (c : ℕ) → declared p (Some c) x ≡ nothing) where
  no-member : (n c : ℕ) → clear c ≡ true → member_within p known n x c ≡ nothing
  no-member zero c q = refl
  no-member (suc n) c q = let w = all c q in
      ap (λ a. or_further a (from_supers (λ d. inheritable p (member_within p known n x d)) (known c))) (none c)
      ∙ ap (from_supers (λ d. inheritable p (member_within p known n x d))) w.known_so
      ∙ all-nothing (λ d. inheritable p (member_within p known n x d)) w.supers (λ d r. ap (inheritable p) (no-member n d (w.above d r)))

  no-above : (n c : ℕ) → clear c ≡ true → from_supers (λ d. inheritable p (member_within p known n x d)) (known c) ≡ nothing
  no-above n c q = let w = all c q in
      ap (from_supers (λ d. inheritable p (member_within p known n x d))) w.known_so ∙ all-nothing (λ d. inheritable p (member_within p known n x d)) w.supers (λ d r. ap (inheritable p) (no-member n d (w.above d r)))

pub nothing_is_found : NothingIsFound
nothing_is_found p known x clear all none c q = (no-member p known x clear all none (length p.sites) c q, no-above p known x clear all none (length p.sites) c q)
