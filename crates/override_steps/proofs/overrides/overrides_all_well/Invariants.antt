use Rattle.std.proofs.Common.{◌≡◌, drop, map}
use Rattle.std.specs.List.{list_all}
use Rattle.source_subtypes.specs.View.{heads_of}
use Rattle.overriding.specs.Overrides.{overrides_well}
use Rattle.class_methods.specs.View.{method_seen}
use Rattle.override_steps.proofs.overrides.overrides_all_well.Given as goal

abbrev pub invariant-loop-at : goal.invariant-loop-at
invariant-loop-at l =
    list_all (overrides_well (heads_of l.heads) (method_seen l.method)) (map method_seen (drop l.at l.others))
    ≡ list_all (overrides_well (heads_of l.heads) (method_seen l.method)) (map method_seen l.others)
