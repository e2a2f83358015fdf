use Rattle.je_lexer.proofs.Whole.{tokens_are_whole}
use Rattle.je_lexer.proofs.laws.tokens_are_whole.Goals as goal

pub returns : goal.returns
returns c = tokens_are_whole
