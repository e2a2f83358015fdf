use Rattle.std.proofs.Common.{◌≡◌, ◌++◌, drop, map}
use Rattle.class_methods.specs.View.{arguments_seen, method_seen}
use Rattle.class_methods.specs.way.Parts.{seen_by}
use Rattle.class_methods.proofs.above.push_seen.Given as goal

abbrev pub invariant-loop-at : goal.invariant-loop-at
invariant-loop-at l =
    map method_seen l.methods.items ++ seen_by (arguments_seen l.arguments) (map method_seen (drop l.at l.of))
    ≡ map method_seen l.initial.methods.items ++ seen_by (arguments_seen l.arguments) (map method_seen l.of)
