use Rattle.std.proofs.Common.{◌≡◌, ◌<◌, ◌≤◌, length, drop}
use Rattle.std.specs.Prelude.{MatchOption}
use Rattle.je_java.specs.Arrays.{elements_of}
use Rattle.machine_forms.proofs.array.elements.Given as goal

abbrev pub invariant-loop-at : goal.invariant-loop-at
invariant-loop-at l = (l.at ≤ length l.counts) × MatchOption l.all (l.most < elements_of (drop l.at l.counts)) (λ n. (n ≡ elements_of (drop l.at l.counts)) × (n ≤ l.most))

abbrev pub decreases-loop-at : goal.decreases-loop-at
decreases-loop-at l = l.at
