use Rattle.std.proofs.Common.{◌≡◌}
use Rattle.name_sites.specs.Number.{count_to, number_in}
use Rattle.name_sites.specs.View.{source_of}
use Rattle.class_typing.specs.Places.{in_body}
use Rattle.class_places.specs.way.Rounds.{in_body_from}
use Rattle.class_places.proofs.rounds.in_body.Given as goal

abbrev pub invariant-loop-next : goal.invariant-loop-next
invariant-loop-next l = in_body_from (source_of l.sites).sites (number_in l.next) ≡ in_body (source_of l.sites).sites l.fn.class.0

abbrev pub decreases-loop-next : goal.decreases-loop-next
decreases-loop-next l = count_to l.next
