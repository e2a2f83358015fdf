use Rattle.je_classes.proofs.FieldSets.{fields_found}
use Rattle.je_classes.proofs.fields_are_found.Goals as goal

pub returns : goal.returns
returns c = fields_found
