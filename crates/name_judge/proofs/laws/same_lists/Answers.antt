use Rattle.name_judge.proofs.Lists.{same_lists_hold}
use Rattle.name_judge.proofs.laws.same_lists.Goals as goal

pub returns : goal.returns
returns c = same_lists_hold
