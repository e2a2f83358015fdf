use Rattle.written_laws.proofs.Spelled.{declarations_are_written}
use Rattle.written_laws.proofs.declarations_are_written.Goals as goal

pub returns : goal.returns
returns c = declarations_are_written
