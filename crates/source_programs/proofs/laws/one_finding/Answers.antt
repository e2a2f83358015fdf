use Rattle.source_programs.proofs.OneFinding.{one_finding}
use Rattle.source_programs.proofs.laws.one_finding.Goals as goal

pub returns : goal.returns
returns c = one_finding
