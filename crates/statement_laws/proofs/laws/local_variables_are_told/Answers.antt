use Rattle.statement_laws.proofs.Starts.{step_no_type}
use Rattle.statement_laws.proofs.Whole.{statement_no_local, local_begins}
use Rattle.statement_laws.proofs.laws.local_variables_are_told.Goals as goal

pub returns : goal.returns
returns c = record {
  steps = λ names texts e t k ts rest all d s n. step_no_type names texts d s n;
  statements = λ names texts h b ts rest d. statement_no_local names texts h ts d;
  locals = λ names texts h f s m t vs ts rest d low. local_begins names texts h d low;
}
