use Rattle.std.proofs.Common.{◌≡◌, ◌++◌, drop, filter, map}
use Rattle.call_typing.specs.Overloads.{accepts}
use Rattle.name_types.specs.View.{shown}
use Rattle.source_subtypes.specs.View.{heads_of}
use Rattle.overloads.specs.View.{candidate_seen}
use Rattle.overloads.proofs.accepting.accepting.Given as goal

abbrev pub invariant-loop-at : goal.invariant-loop-at
invariant-loop-at l =
    map (λ c. candidate_seen c.now) l.accepting.items ++ filter (accepts (heads_of l.heads) (map shown l.types)) (map candidate_seen (drop l.at l.candidates))
    ≡ filter (accepts (heads_of l.heads) (map shown l.types)) (map candidate_seen l.candidates)
