use Rattle.std.proofs.Common.{◌≡◌, ℕ, drop, map}
use Rattle.std.specs.BTreeMap.{get}
use Rattle.std.specs.Option.{option_or}
use Rattle.class_heads.specs.View.{classes_of}
use Rattle.class_methods.specs.View.{method_seen}
use Rattle.source_subtypes.specs.View.{heads_of}
use Rattle.class_bridges.specs.way.Found.{by_at, place_order}
use Rattle.class_bridges.proofs.finding.found.Given as goal

abbrev pub invariant-loop-method : goal.invariant-loop-method
invariant-loop-method l = (at : ℕ × ℕ) →
    option_or (get place_order l.found at)
    (by_at (heads_of l.heads) (classes_of l.classes) (map method_seen l.above)
    (map method_seen (drop l.method-index l.methods)) at)
    ≡ by_at (heads_of l.heads) (classes_of l.classes) (map method_seen l.above) (map method_seen l.methods) at
