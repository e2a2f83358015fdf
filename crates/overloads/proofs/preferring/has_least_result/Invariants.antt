use Rattle.std.proofs.Common.{◌≡◌, drop, map}
use Rattle.std.specs.List.{list_all}
use Rattle.call_typing.specs.Overloads.{has_result_for}
use Rattle.source_subtypes.specs.View.{heads_of}
use Rattle.overloads.specs.View.{candidate_seen}
use Rattle.overloads.proofs.preferring.has_least_result.Given as goal

abbrev pub invariant-loop-at : goal.invariant-loop-at
invariant-loop-at l =
    list_all (has_result_for (heads_of l.heads) (candidate_seen l.candidate)) (map (λ c. candidate_seen c.now) (drop l.at l.candidates))
    ≡ list_all (has_result_for (heads_of l.heads) (candidate_seen l.candidate)) (map (λ c. candidate_seen c.now) l.candidates)
