use Rattle.std.proofs.Common.{◌≡◌, drop, map}
use Rattle.std.specs.List.{list_any}
use Rattle.class_heads.specs.View.{classes_of}
use Rattle.source_subtypes.specs.View.{heads_of}
use Rattle.overriding.specs.Overrides.{clashes}
use Rattle.class_methods.specs.View.{method_seen}
use Rattle.override_steps.proofs.clashing.some_clash.Given as goal

abbrev pub invariant-loop-at : goal.invariant-loop-at
invariant-loop-at l =
    list_any (clashes (heads_of l.heads) (classes_of l.classes) (map method_seen l.methods)) (map method_seen (drop l.at l.methods))
    ≡ list_any (clashes (heads_of l.heads) (classes_of l.classes) (map method_seen l.methods)) (map method_seen l.methods)
