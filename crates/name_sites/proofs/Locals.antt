-- The local classes in scope, one by one.
use Rattle.std.proofs.Common.{◌≡◌, ℕ, Bool, true, false, ◌&&◌, List, Some, if◌then◌else◌, refl, ◌∙◌, sym, ap}
use Rattle.je_base.specs.declared.span.NameId.{NameId}
use Rattle.je_scopes.specs.Sites.{Written}
use Rattle.je_scopes.specs.Headers.{has_name, name_in, site_at}
use Rattle.je_scopes.specs.Looks.{a_class}
use Rattle.je_scopes.specs.Scope.{first_named}
use Rattle.je_scopes.specs.Source.{Source}
use Rattle.name_walk.specs.View.{locals_from, written_view}
use Rattle.name_walk.specs.declared.site.ClassSite.{ClassSite}
use Rattle.name_sites.specs.Shown.{Shows, own_first}

-- the first of them is it, or one further out
split : (p : Source) (x : NameId) (n : ℕ) (is_local : Bool) (rest : List ℕ)
    → first_named p x (own_first is_local n rest) ≡ (if (is_local && has_name (name_in (site_at p.sites n).written) x) then a_class n else first_named p x rest)
split p x n true rest = refl
split p x n false rest = refl

named_is : (p : Source) (x : NameId) (n : ℕ) (c : ClassSite) → Shows p.sites n c
    → first_named p x (locals_from p.sites (Some n)) ≡ (if (c.is_local && has_name (name_in (written_view c.written)) x) then a_class n else first_named p x (locals_from p.sites c.spot.nearest))
named_is p x n c s =
    ap (λ (ls : List ℕ). first_named p x ls) (sym s.locals)
    ∙ split p x n c.is_local (locals_from p.sites c.spot.nearest)
    ∙ ap (λ (w : Written). if (c.is_local && has_name (name_in w) x) then a_class n else first_named p x (locals_from p.sites c.spot.nearest)) (sym s.written)

pub named_here : (p : Source) (x : NameId) (n : ℕ) (c : ClassSite) → Shows p.sites n c → (c.is_local && has_name (name_in (written_view c.written)) x) ≡ true
    → first_named p x (locals_from p.sites (Some n)) ≡ a_class n
named_here p x n c s e = named_is p x n c s ∙ rw e refl

pub named_further : (p : Source) (x : NameId) (n : ℕ) (c : ClassSite) → Shows p.sites n c → (c.is_local && has_name (name_in (written_view c.written)) x) ≡ false
    → first_named p x (locals_from p.sites (Some n)) ≡ first_named p x (locals_from p.sites c.spot.nearest)
named_further p x n c s e = named_is p x n c s ∙ rw e refl
