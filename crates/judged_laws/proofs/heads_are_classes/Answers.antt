use Rattle.judged_laws.proofs.HeaderTypes.{heads_are_classes}
use Rattle.judged_laws.proofs.heads_are_classes.Goals as goal

pub returns : goal.returns
returns c = heads_are_classes
