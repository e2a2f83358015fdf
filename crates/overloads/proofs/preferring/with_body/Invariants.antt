use Rattle.std.proofs.Common.{◌≡◌, ◌++◌, drop, filter, map}
use Rattle.call_typing.specs.Overloads.{has_body}
use Rattle.overloads.specs.View.{candidate_seen}
use Rattle.overloads.proofs.preferring.with_body.Given as goal

abbrev pub invariant-loop-at : goal.invariant-loop-at
invariant-loop-at l =
    map (λ c. candidate_seen c.now) l.with_body.items ++ filter (has_body) (map (λ c. candidate_seen c.now) (drop l.at l.candidates))
    ≡ filter (has_body) (map (λ c. candidate_seen c.now) l.candidates)
