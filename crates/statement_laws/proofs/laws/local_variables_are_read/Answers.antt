use Rattle.statement_laws.proofs.Sound.{local_sound}
use Rattle.statement_laws.proofs.Blocks.{local_read}
use Rattle.statement_laws.proofs.laws.local_variables_are_read.Goals as goal

pub returns : goal.returns
returns c = record {
  spelled = local_sound;
  read = λ names texts h p below f s m t vs ts rest d low. local_read names texts h p below d low;
}
