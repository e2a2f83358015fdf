-- The classes of the library are the first ones.
use Rattle.std.proofs.Common.{◌≡◌, ℕ, zero, suc, List, [], ◌∷◌, length, refl, sym, ap, ◌∙◌, arith}
use Rattle.std.specs.Prelude.{false, map, slice_get}
use Rattle.std.proofs.lemmas.List.{length-map}
use Rattle.je_base.specs.declared.span.NameId.{NameId}
use Rattle.je_core.specs.declared.program.Sort.TheVariants as sort
use Rattle.je_table.specs.Library.{Class, all_classes, class_row, classes}
use Rattle.je_table.specs.declared.classes.LibraryClass.{LibraryClass}
use Rattle.je_scopes.specs.Headers.{is_guest, or_nothing}
use Rattle.je_scopes.specs.Sites.{Site, at_top, in_library, in_units, library_sites, site, sites}
use Rattle.je_scopes.specs.Source.{source}
use Rattle.name_walk.proofs.Growth.{in_units_grew}
use Rattle.name_walk.proofs.Standing.{site_stays}
use Rattle.class_typing.specs.Programs.{number}
use Rattle.library_declarations.specs.Library.{classes_declared, library_declared}
use Rattle.program_tables.specs.Library.{LibraryComesFirst}

abbrev of-library : LibraryClass → Site
of-library c = site in_library sort.Class (at_top 0)

none-guest : (cs : List LibraryClass) (c : ℕ) → is_guest (or_nothing (slice_get (map of-library cs) c)).written ≡ false
none-guest [] c = refl
none-guest (d ∷ ds) zero = refl
none-guest (d ∷ ds) (suc c) = none-guest ds c

as-many : (number : List ℕ → NameId) (at : ℕ) (cs : List Class) → length (classes_declared number at cs) ≡ length cs
as-many number at [] = refl
as-many number at (c ∷ cs) = ap suc (as-many number (suc at) cs)

declared-sites : (number : List ℕ → NameId) → length (library_declared number) ≡ length library_sites
unfolding library_declared
declared-sites number =
    as-many number 0 classes ∙ length-map all_classes class_row ∙ sym (length-map all_classes of-library)

pub library_comes_first : LibraryComesFirst
unfolding sites
library_comes_first texts units c within =
    ap (λ (s : Site). is_guest s.written)
    (site_stays _ library_sites (in_units 0 units library_sites) c (in_units_grew 0 units library_sites)
    (omega (arith, within, declared-sites (number (source texts units)))))
    ∙ none-guest all_classes c
