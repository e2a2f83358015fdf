use Rattle.std.proofs.Common.{◌≡◌, ◌++◌, drop, filter, map}
use Rattle.call_typing.specs.Overloads.{has_least_result}
use Rattle.source_subtypes.specs.View.{heads_of}
use Rattle.overloads.specs.View.{candidate_seen}
use Rattle.overloads.proofs.preferring.with_least_result.Given as goal

abbrev pub invariant-loop-at : goal.invariant-loop-at
invariant-loop-at l =
    map (λ c. candidate_seen c.now) l.least.items ++ filter (has_least_result (heads_of l.heads) (map (λ c. candidate_seen c.now) l.candidates)) (map (λ c. candidate_seen c.now) (drop l.at l.candidates))
    ≡ filter (has_least_result (heads_of l.heads) (map (λ c. candidate_seen c.now) l.candidates)) (map (λ c. candidate_seen c.now) l.candidates)
