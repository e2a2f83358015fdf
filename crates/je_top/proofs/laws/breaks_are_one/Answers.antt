use Rattle.je_top.proofs.OneVerdict.{breaks_are_one}
use Rattle.je_top.proofs.laws.breaks_are_one.Goals as goal

pub returns : goal.returns
returns c = breaks_are_one
