use Rattle.je_fitting.proofs.Acyclic.{acyclic}
use Rattle.je_fitting.proofs.fitting_is_acyclic.Goals as goal

pub returns : goal.returns
returns c = acyclic
