use Rattle.elaborated_laws.proofs.Defaults.{defaults_stand}
use Rattle.elaborated_laws.proofs.defaults_stand.Goals as goal

pub returns : goal.returns
returns c = defaults_stand
