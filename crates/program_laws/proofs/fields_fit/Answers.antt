use Rattle.program_laws.proofs.Fields.{fields_fit}
use Rattle.program_laws.proofs.fields_fit.Goals as goal

pub returns : goal.returns
returns c = fields_fit
