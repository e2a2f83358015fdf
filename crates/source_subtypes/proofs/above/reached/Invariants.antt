use Rattle.std.proofs.Common.{◌≡◌, ◌-◌, map}
use Rattle.name_types.specs.View.{shown}
use Rattle.source_types.specs.Supertypes.{most_steps}
use Rattle.source_types.specs.way.Reaching.{all_met, climbed}
use Rattle.source_subtypes.specs.View.{heads_of}
use Rattle.source_subtypes.proofs.above.reached.Given as goal

abbrev pub invariant-loop : goal.invariant-loop
invariant-loop l =
    climbed (heads_of l.heads) (most_steps (heads_of l.heads) - l.counter) (map shown l.met.items) l.next ≡ all_met (heads_of l.heads) (shown l.ty)
