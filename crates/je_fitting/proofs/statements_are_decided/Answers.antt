use Rattle.je_fitting.proofs.StatementsDecided.{statement_sound, statement_complete}
use Rattle.je_fitting.proofs.statements_are_decided.Goals as goal

pub returns : goal.returns
returns c = λ p b j s. (statement_sound p b j s, statement_complete p b j s)
