use Rattle.written_laws.proofs.Sources.{sources_are_written}
use Rattle.written_laws.proofs.sources_are_written.Goals as goal

pub returns : goal.returns
returns c = sources_are_written
