use Rattle.std.proofs.Common.{length}
use Rattle.je_lexer.proofs.Underway.{IsUnderway}
use Rattle.je_lexer.proofs.lexer.lex_characters.Given as goal

abbrev pub invariant-loop-c : goal.invariant-loop-c
invariant-loop-c l = IsUnderway l.file l.file_end l.characters l.rest l.tokens.list.items l.tokens.names l.tokens.texts.items

abbrev pub decreases-loop-c : goal.decreases-loop-c
decreases-loop-c l = length l.rest
