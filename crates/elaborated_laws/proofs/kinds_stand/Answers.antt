use Rattle.elaborated_laws.proofs.Heads.{kinds_stand}
use Rattle.elaborated_laws.proofs.kinds_stand.Goals as goal

pub returns : goal.returns
returns c = kinds_stand
