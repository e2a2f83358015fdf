use Rattle.elaborated_laws.proofs.Sites.{sources_stand}
use Rattle.elaborated_laws.proofs.sources_stand.Goals as goal

pub returns : goal.returns
returns c = sources_stand
