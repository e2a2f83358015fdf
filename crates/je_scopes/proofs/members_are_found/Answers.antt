use Rattle.je_scopes.proofs.Found.{members_are_found}
use Rattle.je_scopes.proofs.members_are_found.Goals as goal

pub returns : goal.returns
returns c = members_are_found
