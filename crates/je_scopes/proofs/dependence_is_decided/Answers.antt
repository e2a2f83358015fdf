use Rattle.je_scopes.proofs.Dependence.{depends_is_decided}
use Rattle.je_scopes.proofs.Acyclic.{fault_free_is_acyclic}
use Rattle.je_scopes.proofs.Walking.{sources_have_library}
use Rattle.je_scopes.proofs.dependence_is_decided.Goals as goal

pub returns-clause-decided : goal.returns-clause-decided
returns-clause-decided c = depends_is_decided

pub returns-clause-acyclic : goal.returns-clause-acyclic
returns-clause-acyclic c = fault_free_is_acyclic

pub returns-clause-library : goal.returns-clause-library
returns-clause-library c = sources_have_library
