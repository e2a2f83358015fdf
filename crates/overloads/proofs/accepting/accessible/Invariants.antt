use Rattle.std.proofs.Common.{◌≡◌, ◌++◌, drop, filter, map}
use Rattle.call_typing.specs.Overloads.{is_accessible}
use Rattle.name_sites.specs.View.{source_of}
use Rattle.overloads.specs.View.{candidate_seen}
use Rattle.overloads.proofs.accepting.accessible.Given as goal

abbrev pub invariant-loop-at : goal.invariant-loop-at
invariant-loop-at l =
    map (λ c. candidate_seen c.now) l.accessible.items ++ filter (is_accessible (source_of l.sites).sites l.class.0) (map (λ c. candidate_seen c.now) (drop l.at l.candidates))
    ≡ filter (is_accessible (source_of l.sites).sites l.class.0) (map (λ c. candidate_seen c.now) l.candidates)
