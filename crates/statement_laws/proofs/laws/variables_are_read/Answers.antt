use Rattle.statement_laws.proofs.Lists.{variables_sound}
use Rattle.statement_laws.proofs.Blocks.{variables_exact}
use Rattle.statement_laws.proofs.laws.variables_are_read.Goals as goal

pub returns : goal.returns
returns c = record {
  spelled = variables_sound;
  read = λ names texts h p below vs c ts rest d s low. variables_exact names texts h p below d s low;
}
