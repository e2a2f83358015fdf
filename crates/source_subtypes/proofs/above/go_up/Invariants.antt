use Rattle.std.proofs.Common.{◌≡◌, map, drop}
use Rattle.name_types.specs.View.{shown}
use Rattle.source_types.specs.way.Reaching.{gone_up}
use Rattle.source_subtypes.specs.View.{heads_of}
use Rattle.source_subtypes.proofs.above.go_up.Given as goal

abbrev pub invariant-loop-here : goal.invariant-loop-here
invariant-loop-here l =
    gone_up (heads_of l.heads) (map shown l.met.items) (map shown (drop l.here-index l.here-items)) ≡
    gone_up (heads_of l.heads) (map shown l.initial.met.items) (map shown l.here-items)
