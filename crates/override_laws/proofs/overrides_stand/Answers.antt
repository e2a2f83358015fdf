use Rattle.override_laws.proofs.Standing.{overrides_stand}
use Rattle.override_laws.proofs.overrides_stand.Goals as goal

pub returns : goal.returns
returns c = overrides_stand
