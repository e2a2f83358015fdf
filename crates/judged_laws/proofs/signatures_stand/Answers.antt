use Rattle.judged_laws.proofs.ClassSignatures.{signatures_stand}
use Rattle.judged_laws.proofs.signatures_stand.Goals as goal

pub returns : goal.returns
returns c = signatures_stand
