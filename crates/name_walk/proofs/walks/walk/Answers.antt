use Rattle.std.proofs.Common.{◌≡◌, ◌∙◌, sym, ap, arith, length, map, List, length-append}
use Rattle.je_ast.specs.View.{unit_view}
use Rattle.je_scopes.specs.Sites.{Site, in_units, library_sites, sites}
use Rattle.name_walk.specs.View.{sites_of}
use Rattle.name_walk.specs.Sizes.{units_size}
use Rattle.name_walk.proofs.Behind.{count_of_sites}
use Rattle.name_walk.proofs.Growth.{Grew, in_units_grew}
use Rattle.name_walk.proofs.walks.walk.Goals as goal

pub returns-clause-sites : goal.returns-clause-sites
unfolding sites
returns-clause-sites c = c.into_classes.ensures.sites ∙ c.in_ok-all_units.ensures ∙ ap (λ (x : List Site). in_units 0 (map unit_view c.args.units.now) x) c.in_ok-library.ensures

pub returns-clause-few : goal.returns-clause-few
returns-clause-few c =
    let g : Grew (units_size (map unit_view c.args.units.now)) library_sites (in_units 0 (map unit_view c.args.units.now) library_sites) = in_units_grew 0 (map unit_view c.args.units.now) library_sites in
    let e : sites_of c.into_classes.result.items ≡ in_units 0 (map unit_view c.args.units.now) library_sites = c.into_classes.ensures.sites ∙ c.in_ok-all_units.ensures ∙ ap (λ (x : List Site). in_units 0 (map unit_view c.args.units.now) x) c.in_ok-library.ensures in
    omega (arith, count_of_sites c.into_classes.result.items, ap length e, ap length g.is, length-append library_sites g.more, g.few)
