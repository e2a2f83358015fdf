use Rattle.std.proofs.Common.{◌≡◌, drop, map}
use Rattle.std.specs.List.{list_all}
use Rattle.je_core.specs.View.{method_view}
use Rattle.je_types.specs.way.Small.{has_few_locals}
use Rattle.je_types.proofs.limits.have_few_locals.Given as goal

abbrev pub invariant-loop-method : goal.invariant-loop-method
invariant-loop-method l = list_all has_few_locals (map method_view (drop l.method-index l.methods)) ≡ list_all has_few_locals (map method_view l.methods)
