use Rattle.std.proofs.Common.{false}
use Rattle.type_statements.proofs.LocalsAdded.{local_added}
use Rattle.type_statements.proofs.declaring.without_initializer.Goals as goal

pub returns-clause-extends : goal.returns-clause-extends
returns-clause-extends c = local_added _ _ false _ c.in_ok-add_local.ensures
