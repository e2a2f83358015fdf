use Rattle.judged_laws.proofs.Signed.{classes_are_judged}
use Rattle.judged_laws.proofs.classes_are_judged.Goals as goal

pub returns : goal.returns
returns c = classes_are_judged
