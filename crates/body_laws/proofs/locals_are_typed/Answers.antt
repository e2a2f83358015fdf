use Rattle.body_laws.proofs.Walk.{locals_are_typed}
use Rattle.body_laws.proofs.locals_are_typed.Goals as goal

pub returns : goal.returns
returns c = locals_are_typed
