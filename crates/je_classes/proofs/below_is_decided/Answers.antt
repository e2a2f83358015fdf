use Rattle.je_classes.proofs.Below.{below_decided}
use Rattle.je_classes.proofs.below_is_decided.Goals as goal

pub returns : goal.returns
returns c = below_decided
