use Rattle.std.proofs.Common.{◌≡◌, drop, map}
use Rattle.std.specs.List.{list_any}
use Rattle.source_subtypes.specs.View.{heads_of}
use Rattle.overriding.specs.Overrides.{overridden_of, takes_erasure}
use Rattle.class_methods.specs.View.{method_seen}
use Rattle.override_steps.proofs.above.clashes_above.Given as goal

abbrev pub invariant-loop-at : goal.invariant-loop-at
invariant-loop-at l =
    list_any (takes_erasure (heads_of l.heads) (overridden_of (heads_of l.heads) (method_seen l.method) (map method_seen l.above)) (method_seen l.method)) (map method_seen (drop l.at l.above))
    ≡ list_any (takes_erasure (heads_of l.heads) (overridden_of (heads_of l.heads) (method_seen l.method) (map method_seen l.above)) (method_seen l.method)) (map method_seen l.above)
