use Rattle.std.proofs.Common.{◌≡◌, ◌≤◌, length}
use Rattle.je_decode.specs.Escapes.{behind_marks}
use Rattle.je_decode.proofs.escapes.behind_marks.Given as goal

abbrev pub invariant-loop-c : goal.invariant-loop-c
invariant-loop-c l = (behind_marks l.rest ≡ behind_marks l.text) × (length l.rest ≤ length l.text)

abbrev pub decreases-loop-c : goal.decreases-loop-c
decreases-loop-c l = length l.rest
