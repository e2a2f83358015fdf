use Rattle.statement_laws.proofs.Sound.{statement_sound}
use Rattle.statement_laws.proofs.Whole.{statement_exact}
use Rattle.statement_laws.proofs.laws.statements_are_read.Goals as goal

pub returns : goal.returns
returns c = λ names texts h p below. record {
  sound = statement_sound names texts h p below;
  exact = λ b ts rest d fits low. statement_exact names texts h p below d low;
}
