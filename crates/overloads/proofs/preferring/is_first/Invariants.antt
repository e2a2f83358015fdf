use Rattle.std.proofs.Common.{◌≡◌, drop, map}
use Rattle.std.specs.List.{list_all}
use Rattle.std.specs.Prelude.{not}
use Rattle.call_typing.specs.Overloads.{stands_before}
use Rattle.overloads.specs.View.{candidate_seen}
use Rattle.overloads.proofs.preferring.is_first.Given as goal

abbrev pub invariant-loop-at : goal.invariant-loop-at
invariant-loop-at l =
    list_all (λ n. not (stands_before n (candidate_seen l.candidate))) (map (λ c. candidate_seen c.now) (drop l.at l.candidates))
    ≡ list_all (λ n. not (stands_before n (candidate_seen l.candidate))) (map (λ c. candidate_seen c.now) l.candidates)
