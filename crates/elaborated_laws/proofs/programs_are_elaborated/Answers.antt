use Rattle.elaborated_laws.proofs.Classes.{programs_elaborated}
use Rattle.elaborated_laws.proofs.programs_are_elaborated.Goals as goal

pub returns : goal.returns
returns c = programs_elaborated
