use Rattle.override_laws.proofs.Erasures.{own_erasures_differ}
use Rattle.override_laws.proofs.own_erasures_differ.Goals as goal

pub returns : goal.returns
returns c = own_erasures_differ
