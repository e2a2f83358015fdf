use Rattle.override_laws.proofs.Erasures.{one_erasure_overrides}
use Rattle.override_laws.proofs.one_erasure_overrides.Goals as goal

pub returns : goal.returns
returns c = one_erasure_overrides
