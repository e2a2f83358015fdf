use Rattle.je_lexer.proofs.Inside.{tokens_inside}
use Rattle.je_lexer.proofs.laws.tokens_inside.Goals as goal

pub returns : goal.returns
returns c = tokens_inside
