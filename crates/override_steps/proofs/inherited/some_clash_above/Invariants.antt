use Rattle.std.proofs.Common.{◌≡◌, drop, map}
use Rattle.std.specs.List.{list_any}
use Rattle.class_heads.specs.View.{classes_of}
use Rattle.source_subtypes.specs.View.{heads_of}
use Rattle.overriding.specs.Overrides.{clash_above}
use Rattle.class_methods.specs.View.{method_seen}
use Rattle.override_steps.proofs.inherited.some_clash_above.Given as goal

abbrev pub invariant-loop-at : goal.invariant-loop-at
invariant-loop-at l =
    list_any (λ m. list_any (clash_above (heads_of l.heads) (classes_of l.classes) m) (map method_seen l.above)) (map method_seen (drop l.at l.methods))
    ≡ list_any (λ m. list_any (clash_above (heads_of l.heads) (classes_of l.classes) m) (map method_seen l.above)) (map method_seen l.methods)
