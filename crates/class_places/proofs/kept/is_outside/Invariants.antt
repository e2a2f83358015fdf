use Rattle.std.proofs.Common.{◌≡◌, nat_eq}
use Rattle.std.specs.List.{list_any}
use Rattle.je_scopes.specs.Headers.{site_at}
use Rattle.name_sites.specs.Number.{count_to, number_in}
use Rattle.name_walk.specs.View.{round_from}
use Rattle.body_places.specs.View.{program_seen}
use Rattle.class_places.proofs.kept.is_outside.Given as goal

abbrev pub invariant-loop-next : goal.invariant-loop-next
invariant-loop-next l = list_any (nat_eq l.owner.0) (round_from (program_seen l.program).source.sites (number_in l.next))
    ≡ list_any (nat_eq l.owner.0) (site_at (program_seen l.program).source.sites l.fn.class.0).spot.round

abbrev pub decreases-loop-next : goal.decreases-loop-next
decreases-loop-next l = count_to l.next
