-- The first class that is declared under each name, by what is kept of each class.
use Rattle.std.specs.Prelude.{ℕ, suc, List, [], ◌∷◌, Option, Some, None, if◌then◌else◌}
use Rattle.je_base.specs.declared.span.NameId.{NameId}
use Rattle.je_scopes.specs.Headers.{name_in, is_local_sort}
use Rattle.name_walk.specs.View.{written_view}
use Rattle.name_walk.specs.declared.site.ClassSite.{ClassSite}
use Rattle.name_sites.specs.ByName.{or_else, at_key}

-- its name, where it is a member class or stands at the top
abbrev pub name_declared : ClassSite → Option NameId
name_declared c = if is_local_sort c.sort then None else name_in (written_view c.written)

abbrev pub at_name : Option NameId → Option ℕ → ℕ → Option ℕ → NameId → Option ℕ
at_name None place value p x = None
at_name (Some y) place value p x = at_key place y value p x

abbrev pub first_keyed : ℕ → List ClassSite → Option ℕ → NameId → Option ℕ
first_keyed n [] p x = None
first_keyed n (c ∷ cs) p x = or_else (at_name (name_declared c) c.spot.within n p x) (first_keyed (suc n) cs p x)
