use Rattle.written_laws.proofs.Sources.{units_are_written}
use Rattle.written_laws.proofs.units_are_written.Goals as goal

pub returns : goal.returns
returns c = units_are_written
