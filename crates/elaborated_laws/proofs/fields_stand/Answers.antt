use Rattle.elaborated_laws.proofs.Fields.{fields_stand}
use Rattle.elaborated_laws.proofs.fields_stand.Goals as goal

pub returns : goal.returns
returns c = fields_stand
