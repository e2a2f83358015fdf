use Rattle.written_laws.proofs.Spelled.{expressions_are_written}
use Rattle.written_laws.proofs.expressions_are_written.Goals as goal

pub returns : goal.returns
returns c = expressions_are_written
