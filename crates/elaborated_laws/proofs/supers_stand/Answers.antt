use Rattle.elaborated_laws.proofs.Supers.{supers_stand}
use Rattle.elaborated_laws.proofs.supers_stand.Goals as goal

pub returns : goal.returns
returns c = supers_stand
