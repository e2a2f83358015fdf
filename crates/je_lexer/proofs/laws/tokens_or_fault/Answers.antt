use Rattle.je_lexer.proofs.OneAnswer.{apart}
use Rattle.je_lexer.proofs.Total.{total}
use Rattle.je_lexer.proofs.laws.tokens_or_fault.Goals as goal

pub returns-clause-one : goal.returns-clause-one
returns-clause-one c = total

pub returns-clause-not_both : goal.returns-clause-not_both
returns-clause-not_both c = apart
