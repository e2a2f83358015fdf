use Rattle.std.proofs.Common.{◌≡◌, drop, map}
use Rattle.std.specs.List.{list_any}
use Rattle.std.specs.Prelude.{◌&&◌}
use Rattle.source_subtypes.specs.View.{heads_of}
use Rattle.overriding.specs.Methods.{is_same, is_subsignature}
use Rattle.class_methods.specs.View.{method_seen}
use Rattle.class_methods.proofs.above.overrides_among.Given as goal

abbrev pub invariant-loop-at : goal.invariant-loop-at
invariant-loop-at l =
    list_any (λ k. is_same k (method_seen l.other) && is_subsignature (heads_of l.heads) (method_seen l.method) k) (map method_seen (drop l.at l.above))
    ≡ list_any (λ k. is_same k (method_seen l.other) && is_subsignature (heads_of l.heads) (method_seen l.method) k) (map method_seen l.above)
