use Rattle.std.proofs.Common.{length}
use Rattle.je_lexer.proofs.Bodies.{IsUnderway}
use Rattle.je_lexer.proofs.texts.read_text.Given as goal

abbrev pub invariant-loop-c : goal.invariant-loop-c
invariant-loop-c l = IsUnderway l.body l.rest l.units

abbrev pub decreases-loop-c : goal.decreases-loop-c
decreases-loop-c l = length l.rest
