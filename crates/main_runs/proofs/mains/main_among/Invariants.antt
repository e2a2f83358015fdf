use Rattle.std.proofs.Common.{◌≡◌, drop, map}
use Rattle.je_core.specs.View.{method_view}
use Rattle.main_runs.specs.Mains.{main_from}
use Rattle.main_runs.proofs.mains.main_among.Given as goal

abbrev pub invariant-loop-number : goal.invariant-loop-number
invariant-loop-number l = main_from l.names l.number (map method_view (drop l.number l.methods)) ≡ main_from l.names 0 (map method_view l.methods)
