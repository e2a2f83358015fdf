use Rattle.std.proofs.Common.{◌≡◌, drop, map}
use Rattle.je_core.specs.View.{capture_view}
use Rattle.fit_parts.specs.way.Handing.{are_own}
use Rattle.fit_parts.proofs.captures.are_own.Given as goal

abbrev pub invariant-loop-at : goal.invariant-loop-at
invariant-loop-at l = are_own l.class l.at (map capture_view (drop l.at l.captures)) ≡ are_own l.class 0 (map capture_view l.captures)
