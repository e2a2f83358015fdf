use Rattle.std.proofs.Common.{◌≡◌, drop}
use Rattle.std.specs.List.{list_all}
use Rattle.je_scopes.specs.Scope.{is_accessible}
use Rattle.name_sites.specs.View.{source_of}
use Rattle.name_lookup.specs.View.{numbers}
use Rattle.name_lookup.proofs.reading.are_accessible.Given as goal

abbrev pub invariant-loop-other : goal.invariant-loop-other
invariant-loop-other l = list_all (is_accessible (source_of l.sites) l.class.0) (numbers (drop l.other-index l.named)) ≡ list_all (is_accessible (source_of l.sites) l.class.0) (numbers l.named)
