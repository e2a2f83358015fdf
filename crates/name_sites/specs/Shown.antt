-- What is kept of a class, against its site.
use Rattle.std.specs.Prelude.{◌≡◌, ℕ, ◌<◌, Bool, true, false, List, ◌∷◌, length, None}
use Rattle.std.specs.Option.{ForSome}
use Rattle.je_scopes.specs.Sites.{Site}
use Rattle.je_scopes.specs.Headers.{site_at}
use Rattle.je_core.specs.declared.program.Sort.TheVariants as sort
use Rattle.name_walk.specs.declared.site.Context.TheVariants as context
use Rattle.name_walk.specs.declared.site.Written.TheVariants as written
use Rattle.name_walk.specs.View.{context_view, locals_from, round_from, written_view}
use Rattle.name_walk.specs.declared.site.ClassSite.{ClassSite}

-- a local class is in its own scope
abbrev pub own_first : Bool → ℕ → List ℕ → List ℕ
own_first true n locals = n ∷ locals
own_first false n locals = locals

pub record Shows (sites : List Site) (n : ℕ) (c : ClassSite) : Type 0 where
  pub written : written_view c.written ≡ (site_at sites n).written
  pub sort : c.sort ≡ (site_at sites n).sort
  pub unit : c.spot.unit ≡ (site_at sites n).spot.unit
  pub context : context_view c.spot.context ≡ (site_at sites n).spot.context
  pub round : round_from sites c.spot.within ≡ (site_at sites n).spot.round
  pub locals : own_first c.is_local n (locals_from sites c.spot.nearest) ≡ (site_at sites n).spot.locals
  pub within : ForSome c.spot.within (λ d. d < length sites)
  pub earlier : ForSome c.spot.within (λ d. d < n)
  pub nearest : ForSome c.spot.nearest (λ d. d < n)

-- one with nothing in it
abbrev pub no_class : ClassSite
no_class = record { written = written.Library; sort = sort.Class; spot = record { unit = 0; within = None; nearest = None; context = context.Static }; is_local = false }
