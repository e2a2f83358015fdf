use Rattle.je_top.proofs.OneVerdict.{verdict_is_one}
use Rattle.je_top.proofs.laws.verdict_is_one.Goals as goal

pub returns : goal.returns
returns c = verdict_is_one
