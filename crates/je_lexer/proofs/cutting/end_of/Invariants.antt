use Rattle.std.proofs.Common.{◌≡◌, length}
use Rattle.je_lexer.specs.Spans.{end_of}
use Rattle.je_lexer.proofs.cutting.end_of.Given as goal

abbrev pub invariant-loop-c : goal.invariant-loop-c
invariant-loop-c l = end_of l.last l.rest ≡ end_of l.end l.text

abbrev pub decreases-loop-c : goal.decreases-loop-c
decreases-loop-c l = length l.rest
