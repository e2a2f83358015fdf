use Rattle.override_laws.proofs.Bridging.{overrides_bridge}
use Rattle.override_laws.proofs.overrides_bridge.Goals as goal

pub returns : goal.returns
returns c = overrides_bridge
