use Rattle.std.proofs.Common.{◌≡◌, drop, map}
use Rattle.std.specs.List.{list_any}
use Rattle.source_subtypes.specs.View.{heads_of}
use Rattle.overriding.specs.Methods.{Method}
use Rattle.overriding.specs.Overrides.{have_one_erasure}
use Rattle.class_methods.specs.View.{method_seen}
use Rattle.override_steps.proofs.above.is_like_one.Given as goal

abbrev pub invariant-loop-at : goal.invariant-loop-at
invariant-loop-at l =
    list_any (λ (n : Method). have_one_erasure (heads_of l.heads) (method_seen l.method).declared n.declared) (map method_seen (drop l.at l.methods))
    ≡ list_any (λ (n : Method). have_one_erasure (heads_of l.heads) (method_seen l.method).declared n.declared) (map method_seen l.methods)
