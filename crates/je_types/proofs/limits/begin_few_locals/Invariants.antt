use Rattle.std.proofs.Common.{◌≡◌, drop, map}
use Rattle.std.specs.List.{list_all}
use Rattle.je_core.specs.View.{initializer_view}
use Rattle.je_types.specs.way.Small.{begins_few_locals}
use Rattle.je_types.proofs.limits.begin_few_locals.Given as goal

abbrev pub invariant-loop-initializer : goal.invariant-loop-initializer
invariant-loop-initializer l = list_all begins_few_locals (map initializer_view (drop l.initializer-index l.initializers)) ≡ list_all begins_few_locals (map initializer_view l.initializers)
