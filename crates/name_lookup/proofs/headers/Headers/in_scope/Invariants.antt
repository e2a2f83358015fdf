use Rattle.std.proofs.Common.{◌≡◌, length}
use Rattle.je_scopes.specs.Headers.{site_at}
use Rattle.je_scopes.specs.Scope.{outwards, in_scope}
use Rattle.name_sites.specs.View.{source_of}
use Rattle.name_lookup.specs.View.{part_view, known_of}
use Rattle.name_lookup.proofs.headers.Headers.in_scope.Given as goal

abbrev pub invariant-loop-near : goal.invariant-loop-near
invariant-loop-near l = outwards (source_of l.sites) (known_of l.self) l.name (part_view l.part) l.class.0 (site_at (source_of l.sites).sites l.class.0).spot.round
    ≡ in_scope (source_of l.sites) (known_of l.self) l.fn.place.class.0 (part_view l.fn.place.part) l.name

abbrev pub decreases-loop-near : goal.decreases-loop-near
decreases-loop-near l = length (site_at (source_of l.sites).sites l.class.0).spot.round
