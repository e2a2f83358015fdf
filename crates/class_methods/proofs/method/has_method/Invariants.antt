use Rattle.std.proofs.Common.{◌≡◌, drop, map}
use Rattle.std.specs.List.{list_any}
use Rattle.overriding.specs.Methods.{is_same}
use Rattle.class_methods.specs.View.{method_seen}
use Rattle.class_methods.proofs.method.has_method.Given as goal

abbrev pub invariant-loop-at : goal.invariant-loop-at
invariant-loop-at l =
    list_any (is_same (method_seen l.method)) (map method_seen (drop l.at l.methods))
    ≡ list_any (is_same (method_seen l.method)) (map method_seen l.methods)
