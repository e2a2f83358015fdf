use Rattle.std.proofs.Common.{◌≡◌, ◌++◌, length, string_bytes}
use Rattle.je_lexer.specs.Tokens.{spelled}
use Rattle.je_lexer.proofs.tokens.spell.Given as goal

abbrev pub invariant-loop-c : goal.invariant-loop-c
invariant-loop-c l = string_bytes l.text ++ spelled l.rest ≡ spelled l.front

abbrev pub decreases-loop-c : goal.decreases-loop-c
decreases-loop-c l = length l.rest
