use Rattle.std.proofs.Common.{◌≡◌}
use Rattle.je_scopes.specs.Headers.{site_at}
use Rattle.je_scopes.specs.Scope.{first_named}
use Rattle.name_walk.specs.View.{locals_from}
use Rattle.name_sites.specs.Number.{count_to, number_in}
use Rattle.name_sites.specs.View.{source_of}
use Rattle.name_sites.proofs.sites.Sites.local_named.Given as goal

abbrev pub invariant-loop-next : goal.invariant-loop-next
invariant-loop-next l =
    first_named (source_of l.self) l.name (locals_from (source_of l.self).sites (number_in l.next))
    ≡ first_named (source_of l.self) l.name (site_at (source_of l.self).sites l.fn.class.0).spot.locals

abbrev pub decreases-loop-next : goal.decreases-loop-next
decreases-loop-next l = count_to l.next
