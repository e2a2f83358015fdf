use Rattle.std.proofs.Common.{◌≡◌, ◌≤◌, ◌+◌, ◌*◌, ◌^◌, drop, map}
use Rattle.std.specs.Prelude.{sum}
use Rattle.je_core.specs.View.{class_view}
use Rattle.je_classes.specs.Statics.{static_count}
use Rattle.je_types.proofs.limits.statics_among.Given as goal

abbrev pub invariant-loop-class : goal.invariant-loop-class
invariant-loop-class l = (l.count + sum (map static_count (map class_view (drop l.class-index l.classes))) ≡ sum (map static_count (map class_view l.classes)))
    × (l.count ≤ l.class-index * 2 ^ 63)
