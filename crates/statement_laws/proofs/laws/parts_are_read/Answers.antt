use Rattle.statement_laws.proofs.Groups.{semicolon, close_paren, steps_before_exact, groups_exact}
use Rattle.statement_laws.proofs.Exact.{condition_exact}
use Rattle.statement_laws.proofs.laws.parts_are_read.Goals as goal

pub returns : goal.returns
returns c = record {
  conditions = λ names texts h p below e ts rest d low. condition_exact names texts h p below d low;
  first_steps = λ names texts h p below es c ts rest d i low. steps_before_exact names texts h p below semicolon d i low;
  last_steps = λ names texts h p below es c ts rest d i low. steps_before_exact names texts h p below close_paren d i low;
  groups = λ names texts h p below gs c ts rest d low. groups_exact names texts h p below d low;
}
