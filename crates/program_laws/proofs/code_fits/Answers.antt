use Rattle.program_laws.proofs.Bodies.{code_fits}
use Rattle.program_laws.proofs.code_fits.Goals as goal

pub returns : goal.returns
returns c = code_fits
