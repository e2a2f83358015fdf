use Rattle.std.proofs.Common.{◌≡◌, drop, map}
use Rattle.std.specs.List.{list_any}
use Rattle.je_core.specs.View.{method_view}
use Rattle.je_classes.specs.Dispatch.{same_signature}
use Rattle.selfless_rules.proofs.selfless.has_like.Given as goal

abbrev pub invariant-loop-method : goal.invariant-loop-method
invariant-loop-method l = list_any (λ m. same_signature m (method_view l.like)) (map method_view (drop l.method-index l.methods)) ≡ list_any (λ m. same_signature m (method_view l.like)) (map method_view l.methods)
