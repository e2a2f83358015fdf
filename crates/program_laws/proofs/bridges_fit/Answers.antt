use Rattle.program_laws.proofs.BridgesFit.{bridges_fit}
use Rattle.program_laws.proofs.bridges_fit.Goals as goal

pub returns : goal.returns
returns c = bridges_fit
