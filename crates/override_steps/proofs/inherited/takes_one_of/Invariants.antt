use Rattle.std.proofs.Common.{◌≡◌, drop, map}
use Rattle.std.specs.List.{list_any}
use Rattle.class_heads.specs.View.{classes_of}
use Rattle.source_subtypes.specs.View.{heads_of}
use Rattle.overriding.specs.Overrides.{overridden_of, takes_unrelated}
use Rattle.class_methods.specs.View.{method_seen}
use Rattle.override_steps.proofs.inherited.takes_one_of.Given as goal

abbrev pub invariant-loop-at : goal.invariant-loop-at
invariant-loop-at l =
    list_any (takes_unrelated (heads_of l.heads) (classes_of l.classes) (overridden_of (heads_of l.heads) (method_seen l.own) (map method_seen l.own_above)) (method_seen l.method)) (map method_seen (drop l.at l.above))
    ≡ list_any (takes_unrelated (heads_of l.heads) (classes_of l.classes) (overridden_of (heads_of l.heads) (method_seen l.own) (map method_seen l.own_above)) (method_seen l.method)) (map method_seen l.above)
