use Rattle.std.proofs.Common.{◌≡◌, drop, map}
use Rattle.je_core.specs.View.{method_view, program_view}
use Rattle.constructor_calls.specs.Calls.{plain_from}
use Rattle.constructor_calls.proofs.implicit.plain_among.Given as goal

abbrev pub invariant-loop-at : goal.invariant-loop-at
invariant-loop-at l = plain_from (program_view l.program) l.at (map method_view (drop l.at l.methods)) ≡ plain_from (program_view l.program) 0 (map method_view l.methods)
