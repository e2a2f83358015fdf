use Rattle.std.proofs.Common.{◌≡◌, ◌++◌, drop, map}
use Rattle.std.specs.List.{list_any}
use Rattle.overriding.specs.Overrides.{is_left_abstract}
use Rattle.class_methods.specs.View.{method_seen}
use Rattle.override_steps.proofs.implementing.some_left.Given as goal

abbrev pub invariant-loop-at : goal.invariant-loop-at
invariant-loop-at l =
    list_any (is_left_abstract (map method_seen l.own ++ map method_seen l.inherited)) (map method_seen (drop l.at l.methods))
    ≡ list_any (is_left_abstract (map method_seen l.own ++ map method_seen l.inherited)) (map method_seen l.methods)
