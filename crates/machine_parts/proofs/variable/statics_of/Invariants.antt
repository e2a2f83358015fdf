use Rattle.std.proofs.Common.{◌≡◌, ◌≤◌, ◌+◌, ◌*◌, ◌^◌, drop, map}
use Rattle.je_core.specs.View.{class_view}
use Rattle.je_java.specs.Classes.{statics_of}
use Rattle.machine_parts.proofs.variable.statics_of.Given as goal

abbrev pub invariant-loop-class : goal.invariant-loop-class
invariant-loop-class l = (l.count + statics_of (map class_view (drop l.class-index l.classes)) ≡ statics_of (map class_view l.classes))
    × (l.count ≤ l.class-index * 2 ^ 63)
