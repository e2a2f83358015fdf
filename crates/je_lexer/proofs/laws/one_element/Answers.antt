use Rattle.je_lexer.proofs.Next.{one_next}
use Rattle.je_lexer.proofs.Total.{next_or_none}
use Rattle.je_lexer.proofs.laws.one_element.Goals as goal

pub returns-clause-one : goal.returns-clause-one
returns-clause-one c = one_next

pub returns-clause-some : goal.returns-clause-some
returns-clause-some c = next_or_none
