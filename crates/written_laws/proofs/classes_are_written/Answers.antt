use Rattle.written_laws.proofs.Sources.{classes_are_written}
use Rattle.written_laws.proofs.classes_are_written.Goals as goal

pub returns : goal.returns
returns c = classes_are_written
