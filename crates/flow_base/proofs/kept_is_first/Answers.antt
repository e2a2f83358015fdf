use Rattle.flow_base.proofs.First.{kept_is_first}
use Rattle.flow_base.proofs.kept_is_first.Goals as goal

pub returns : goal.returns
returns c = kept_is_first
