use Rattle.rule_breaks.proofs.Unique.{list-is-one}
use Rattle.rule_breaks.proofs.list_is_one.Goals as goal

pub returns : goal.returns
returns c = list-is-one
