use Rattle.std.proofs.Common.{◌≡◌, drop, map}
use Rattle.std.specs.List.{list_any}
use Rattle.source_subtypes.specs.View.{heads_of}
use Rattle.overriding.specs.Methods.{is_subsignature}
use Rattle.class_methods.specs.View.{method_seen}
use Rattle.class_methods.proofs.signatures.is_overridden.Given as goal

abbrev pub invariant-loop-at : goal.invariant-loop-at
invariant-loop-at l =
    list_any (λ m. is_subsignature (heads_of l.heads) m (method_seen l.other)) (map method_seen (drop l.at l.methods))
    ≡ list_any (λ m. is_subsignature (heads_of l.heads) m (method_seen l.other)) (map method_seen l.methods)
