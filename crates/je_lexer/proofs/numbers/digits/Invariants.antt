use Rattle.std.proofs.Common.{◌≡◌, length}
use Rattle.je_lexer.specs.Numbers.{digits}
use Rattle.je_lexer.proofs.numbers.digits.Given as goal

abbrev pub invariant-loop-c : goal.invariant-loop-c
invariant-loop-c l = digits l.decimal l.radix l.value l.rest ≡ digits l.decimal l.radix 0 l.text

abbrev pub decreases-loop-c : goal.decreases-loop-c
decreases-loop-c l = length l.rest
