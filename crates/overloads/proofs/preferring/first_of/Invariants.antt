use Rattle.std.proofs.Common.{◌≡◌, drop, map}
use Rattle.std.specs.List.{find}
use Rattle.call_typing.specs.Overloads.{is_first}
use Rattle.overloads.specs.View.{candidate_seen}
use Rattle.overloads.proofs.preferring.first_of.Given as goal

abbrev pub invariant-loop-at : goal.invariant-loop-at
invariant-loop-at l =
    find (is_first (map (λ c. candidate_seen c.now) l.candidates)) (map (λ c. candidate_seen c.now) (drop l.at l.candidates))
    ≡ find (is_first (map (λ c. candidate_seen c.now) l.candidates)) (map (λ c. candidate_seen c.now) l.candidates)
