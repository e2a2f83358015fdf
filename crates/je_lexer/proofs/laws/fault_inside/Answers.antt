use Rattle.je_lexer.proofs.FaultInside.{fault_inside}
use Rattle.je_lexer.proofs.laws.fault_inside.Goals as goal

pub returns : goal.returns
returns c = fault_inside
