use Rattle.je_lexer.proofs.OneAnswer.{one_tokens, one_fault}
use Rattle.je_lexer.proofs.laws.answer_is_one.Goals as goal

pub returns-clause-tokens : goal.returns-clause-tokens
returns-clause-tokens c = one_tokens

pub returns-clause-fault : goal.returns-clause-fault
returns-clause-fault c = one_fault
