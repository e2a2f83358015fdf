use Rattle.program_laws.proofs.Program.{programs_fit}
use Rattle.program_laws.proofs.programs_fit.Goals as goal

pub returns : goal.returns
returns c = programs_fit c.library_fits.ensures
