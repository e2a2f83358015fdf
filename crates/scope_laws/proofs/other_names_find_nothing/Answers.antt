use Rattle.scope_laws.proofs.Free.{nothing_is_found}
use Rattle.scope_laws.proofs.other_names_find_nothing.Goals as goal

pub returns : goal.returns
returns c = nothing_is_found
