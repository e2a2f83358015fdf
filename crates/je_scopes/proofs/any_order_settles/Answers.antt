use Rattle.je_scopes.proofs.Rounds.{any_order_decides}
use Rattle.je_scopes.proofs.any_order_settles.Goals as goal

pub returns-clause-decides : goal.returns-clause-decides
returns-clause-decides c = any_order_decides
