use Rattle.judged_laws.proofs.Erased.{variables_stand}
use Rattle.judged_laws.proofs.variables_stand.Goals as goal

pub returns : goal.returns
returns c = variables_stand
