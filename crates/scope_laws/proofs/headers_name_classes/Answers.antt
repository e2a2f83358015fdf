use Rattle.scope_laws.proofs.Supers.{headers_are_within}
use Rattle.scope_laws.proofs.headers_name_classes.Goals as goal

pub returns : goal.returns
returns c = headers_are_within
