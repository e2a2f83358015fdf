use Rattle.std.proofs.Common.{◌≡◌, ℕ, drop, map}
use Rattle.std.specs.BTreeMap.{get}
use Rattle.class_heads.specs.View.{classes_of}
use Rattle.class_methods.specs.View.{method_seen}
use Rattle.source_subtypes.specs.View.{heads_of}
use Rattle.class_bridges.specs.way.Found.{else_by, place_order, runs_at}
use Rattle.class_bridges.proofs.finding.add_all.Given as goal

abbrev pub invariant-loop-other : goal.invariant-loop-other
invariant-loop-other l = (at : ℕ × ℕ) →
    else_by (get place_order l.found at)
    (runs_at (heads_of l.heads) (classes_of l.classes) (map method_seen (drop l.other-index l.above)) at
    (method_seen l.method)) (method_seen l.method)
    ≡ else_by (get place_order l.fn.found at)
    (runs_at (heads_of l.heads) (classes_of l.classes) (map method_seen l.above) at (method_seen l.method))
    (method_seen l.method)
