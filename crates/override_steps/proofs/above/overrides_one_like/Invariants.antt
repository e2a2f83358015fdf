use Rattle.std.proofs.Common.{◌≡◌, drop, map}
use Rattle.std.specs.List.{list_any}
use Rattle.source_subtypes.specs.View.{heads_of}
use Rattle.overriding.specs.Methods.{Method}
use Rattle.overriding.specs.Overrides.{have_one_erasure, overridden_of}
use Rattle.class_methods.specs.View.{method_seen}
use Rattle.override_steps.proofs.above.overrides_one_like.Given as goal

abbrev pub invariant-loop-at : goal.invariant-loop-at
invariant-loop-at l =
    list_any (λ (j : Method). have_one_erasure (heads_of l.heads) j.declared (method_seen l.other).declared) (overridden_of (heads_of l.heads) (method_seen l.method) (map method_seen (drop l.at l.above)))
    ≡ list_any (λ (j : Method). have_one_erasure (heads_of l.heads) j.declared (method_seen l.other).declared) (overridden_of (heads_of l.heads) (method_seen l.method) (map method_seen l.above))
