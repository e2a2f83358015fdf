use Rattle.std.proofs.Common.{◌≡◌, drop, map}
use Rattle.je_core.specs.View.{method_view}
use Rattle.method_lookup.specs.way.Ways.{any_named}
use Rattle.method_lookup.proofs.ways.any_named.Given as goal

abbrev pub invariant-loop-method : goal.invariant-loop-method
invariant-loop-method l = any_named l.name l.params (map method_view (drop l.method-index l.methods)) ≡ any_named l.name l.params (map method_view l.methods)
