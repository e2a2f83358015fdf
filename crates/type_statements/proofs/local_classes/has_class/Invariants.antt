use Rattle.std.proofs.Common.{◌≡◌, drop}
use Rattle.std.specs.List.{list_any}
use Rattle.je_scopes.specs.Headers.{has_name, name_in, site_at}
use Rattle.name_lookup.specs.View.{numbers}
use Rattle.name_sites.specs.View.{source_of}
use Rattle.type_statements.proofs.local_classes.has_class.Given as goal

abbrev pub invariant-loop-class : goal.invariant-loop-class
invariant-loop-class l =
    list_any (λ c. has_name (name_in (site_at (source_of l.sites).sites c).written) l.name) (numbers (drop l.class-index l.classes))
    ≡ list_any (λ c. has_name (name_in (site_at (source_of l.sites).sites c).written) l.name) (numbers l.classes)
