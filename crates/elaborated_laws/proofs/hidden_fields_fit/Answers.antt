use Rattle.elaborated_laws.proofs.HiddenFields.{hidden_fields_fit}
use Rattle.elaborated_laws.proofs.hidden_fields_fit.Goals as goal

pub returns : goal.returns
returns c = hidden_fields_fit
