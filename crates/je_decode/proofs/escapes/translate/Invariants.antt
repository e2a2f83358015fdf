use Rattle.std.proofs.Common.{length}
use Rattle.je_decode.proofs.Translating.{IsUnderway}
use Rattle.je_decode.proofs.escapes.translate.Given as goal

abbrev pub invariant-loop-c : goal.invariant-loop-c
invariant-loop-c l = IsUnderway l.raw l.odd l.rest l.all.items

abbrev pub decreases-loop-c : goal.decreases-loop-c
decreases-loop-c l = length l.rest
