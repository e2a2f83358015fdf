use Rattle.std.proofs.Common.{◌≡◌}
use Rattle.std.specs.List.{list_any}
use Rattle.je_scopes.specs.Headers.{site_at}
use Rattle.name_walk.specs.View.{round_from}
use Rattle.name_sites.specs.Number.{count_to, number_in}
use Rattle.name_sites.specs.View.{source_of}
use Rattle.name_judge.proofs.Rounds.{has_it}
use Rattle.name_judge.proofs.naming.is_round.Given as goal

abbrev pub invariant-loop-next : goal.invariant-loop-next
invariant-loop-next l = list_any (has_it (source_of l.sites) l.name) (round_from (source_of l.sites).sites (number_in l.next))
    ≡ list_any (has_it (source_of l.sites) l.name) (site_at (source_of l.sites).sites l.fn.class.0).spot.round

abbrev pub decreases-loop-next : goal.decreases-loop-next
decreases-loop-next l = count_to l.next
