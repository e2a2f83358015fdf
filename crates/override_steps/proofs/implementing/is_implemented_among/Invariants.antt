use Rattle.std.proofs.Common.{◌≡◌, drop, map}
use Rattle.std.specs.List.{list_any}
use Rattle.overriding.specs.Overrides.{implements}
use Rattle.class_methods.specs.View.{method_seen}
use Rattle.override_steps.proofs.implementing.is_implemented_among.Given as goal

abbrev pub invariant-loop-at : goal.invariant-loop-at
invariant-loop-at l =
    list_any (λ m. implements m (method_seen l.other)) (map method_seen (drop l.at l.methods))
    ≡ list_any (λ m. implements m (method_seen l.other)) (map method_seen l.methods)
