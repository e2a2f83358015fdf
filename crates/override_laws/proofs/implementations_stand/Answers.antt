use Rattle.override_laws.proofs.Inherited.{implementations_stand}
use Rattle.override_laws.proofs.implementations_stand.Goals as goal

pub returns : goal.returns
returns c = implementations_stand
