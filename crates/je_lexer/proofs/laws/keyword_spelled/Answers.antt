use Rattle.je_lexer.proofs.Keywords.{spelled, found}
use Rattle.je_lexer.proofs.laws.keyword_spelled.Goals as goal

pub returns-clause-spelled : goal.returns-clause-spelled
returns-clause-spelled c = spelled

pub returns-clause-found : goal.returns-clause-found
returns-clause-found c = found
