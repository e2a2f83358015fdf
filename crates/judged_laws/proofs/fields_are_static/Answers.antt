use Rattle.judged_laws.proofs.InterfaceFields.{fields_are_static}
use Rattle.judged_laws.proofs.fields_are_static.Goals as goal

pub returns : goal.returns
returns c = fields_are_static
