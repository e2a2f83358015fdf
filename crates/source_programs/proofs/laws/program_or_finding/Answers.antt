use Rattle.source_programs.proofs.OneProgram.{program_or_finding}
use Rattle.source_programs.proofs.laws.program_or_finding.Goals as goal

pub returns : goal.returns
returns c = program_or_finding
