use Rattle.je_scopes.proofs.First.{first_is_found, none_is_fault_free}
use Rattle.je_scopes.proofs.first_fault_is_found.Goals as goal

pub returns-clause-first : goal.returns-clause-first
returns-clause-first c = first_is_found

pub returns-clause-none : goal.returns-clause-none
returns-clause-none c = none_is_fault_free
