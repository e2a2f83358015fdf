use Rattle.written_laws.proofs.Spelled.{statements_are_written}
use Rattle.written_laws.proofs.statements_are_written.Goals as goal

pub returns : goal.returns
returns c = statements_are_written
