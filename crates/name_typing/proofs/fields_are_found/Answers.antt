use Rattle.name_typing.proofs.FieldSets.{fields_found}
use Rattle.name_typing.proofs.fields_are_found.Goals as goal

pub returns : goal.returns
returns c = fields_found
