-- The classes round a class, the innermost first.
use Rattle.std.proofs.Common.{◌≡◌, ℕ, suc, ◌<◌, Option, Some, None, refl, sym, ◌∙◌, ap, arith}
use Rattle.std.specs.Prelude.{Bool, true, false, ◌||◌}
use Rattle.std.specs.List.{list_any}
use Rattle.std.specs.Option.{ForSome}
use Rattle.je_base.specs.declared.span.NameId.{NameId}
use Rattle.je_core.specs.declared.types.ClassId.{ClassId}
use Rattle.je_scopes.specs.Headers.{has_name, name_in, site_at}
use Rattle.je_scopes.specs.Source.{Source}
use Rattle.name_walk.specs.View.{round_from}
use Rattle.name_sites.specs.Number.{count_to, number_in}

module _ (p : Source) (x : NameId) where
  abbrev pub has_it : ℕ → Bool
  has_it d = has_name (name_in (site_at p.sites d).written) x

  pub round_begins : (c : ℕ) (w : Option ℕ) → (site_at p.sites c).spot.round ≡ round_from p.sites w → list_any has_it (round_from p.sites w) ≡ list_any has_it (site_at p.sites c).spot.round
  round_begins c w e = ap (list_any has_it) (sym e)

  pub round_here : (d : ℕ) (whole : Bool) → true ≡ has_it d → list_any has_it (round_from p.sites (Some d)) ≡ whole → true ≡ whole
  round_here d whole h l = ap (λ (b : Bool). b || list_any has_it (site_at p.sites d).spot.round) h ∙ l

  pub round_on : (d : ℕ) (w : Option ℕ) (whole : Bool) → false ≡ has_it d → (site_at p.sites d).spot.round ≡ round_from p.sites w → list_any has_it (round_from p.sites (Some d)) ≡ whole
      → list_any has_it (round_from p.sites w) ≡ whole
  round_on d w whole h e l = round_begins d w e ∙ ap (λ (b : Bool). b || list_any has_it (site_at p.sites d).spot.round) h ∙ l

-- the class round a class stands before it
pub count_falls : (o w : Option ClassId) (d : ClassId) → w ≡ Some d → ForSome (number_in o) (λ e. e < d.0) → count_to o < count_to w
count_falls None w d is before = let e : count_to w ≡ suc d.0 = ap count_to is in omega (arith, e)
count_falls (Some c) w d is before = let e : count_to w ≡ suc d.0 = ap count_to is in let l : c.0 < d.0 = before c.0 refl in omega (arith, e, l)
