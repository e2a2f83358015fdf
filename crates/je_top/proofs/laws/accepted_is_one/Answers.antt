use Rattle.je_top.proofs.OneVerdict.{accepted_is_one}
use Rattle.je_top.proofs.laws.accepted_is_one.Goals as goal

pub returns : goal.returns
returns c = accepted_is_one
