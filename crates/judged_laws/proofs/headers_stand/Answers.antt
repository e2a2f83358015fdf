use Rattle.judged_laws.proofs.ClassSupers.{headers_stand}
use Rattle.judged_laws.proofs.headers_stand.Goals as goal

pub returns : goal.returns
returns c = headers_stand
