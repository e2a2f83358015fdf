-- What contracts see of the classes that the walk finds.
use Rattle.std.specs.Prelude.{◌≡◌, ℕ, ◌<◌, Bool, true, false, slice_get, List, [], ◌∷◌, ◌++◌, length, Option, Some, None, if◌then◌else◌}
use Rattle.std.specs.Option.{ForSome}
use Rattle.je_ast.specs.Types.{type_view}
use Rattle.je_ast.specs.Trees.{Statement}
use Rattle.je_ast.specs.Trees as tree
use Rattle.je_ast.specs.View.{declaration_view, member_views_of}
use Rattle.je_scopes.specs.Sites as sites
use Rattle.je_scopes.specs.Sites.{Site, site, behind_local}
use Rattle.je_scopes.specs.Headers.{site_at}
use Rattle.name_walk.specs.declared.site.Written.{Written}
use Rattle.name_walk.specs.declared.site.Written.TheVariants as written
use Rattle.name_walk.specs.declared.site.Context.{Context}
use Rattle.name_walk.specs.declared.site.Context.TheVariants as context
use Rattle.name_walk.specs.declared.site.Spot.{Spot}
use Rattle.name_walk.specs.declared.site.ClassSite.{ClassSite}

abbrev pub written_view : Written → sites.Written
written_view written.Library = sites.in_library
written_view (written.Declared d) = sites.declared (declaration_view d.now)
written_view (written.Anonymous word class body) = sites.behind_new word (type_view class.now) (member_views_of body.now)

abbrev pub context_view : Context → sites.Context
context_view context.Instance = sites.instance
context_view context.ConstructorArguments = sites.constructor_arguments
context_view context.Static = sites.static

-- a class, and those round it
abbrev pub round_from : List Site → Option ℕ → List ℕ
round_from before None = []
round_from before (Some c) = c ∷ (site_at before c).spot.round

-- a local class, and those in scope where it is written
abbrev pub locals_from : List Site → Option ℕ → List ℕ
locals_from before None = []
locals_from before (Some c) = (site_at before c).spot.locals

abbrev pub spot_from : List Site → Spot → sites.Spot
spot_from before s = record { unit = s.unit; round = round_from before s.within; locals = locals_from before s.nearest; context = context_view s.context }

-- where a class of this number stands, which is in scope there if it is local
abbrev pub in_own_scope : Bool → ℕ → sites.Spot → sites.Spot
in_own_scope is_local number spot = if is_local then behind_local number spot else spot

-- a class behind those that stand before it
abbrev pub site_from : List Site → ClassSite → Site
site_from before c = site (written_view c.written) c.sort (in_own_scope c.is_local (length before) (spot_from before c.spot))

abbrev pub sites_from : List Site → List ClassSite → List Site
sites_from before [] = []
sites_from before (c ∷ cs) = site_from before c ∷ sites_from (before ++ site_from before c ∷ []) cs

unfoldable pub sites_of : List ClassSite → List Site
sites_of cs = sites_from [] cs

-- a spot of which the classes that it names are among so many
pub record IsAmong (count : ℕ) (s : Spot) : Type 0 where
  pub within : ForSome s.within (λ c. c < count)
  pub nearest : ForSome s.nearest (λ c. c < count)

-- each class names earlier ones alone
abbrev pub NameEarlier : List ClassSite → Type 0
NameEarlier cs = (n : ℕ) (c : ClassSite) → slice_get cs n ≡ Some c → IsAmong n c.spot

-- ---- statements

-- whether a statement declares a class
abbrev pub is_local_class : Statement → Bool
is_local_class (tree.local_class d) = true
is_local_class _ = false
