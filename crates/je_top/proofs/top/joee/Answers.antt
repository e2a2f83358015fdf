-- The answers of a call, by what is due.
use Rattle.je_top.proofs.CallLemmas.{completes_is, due_is, grew_is, not_built_is, run_completes_is, runs_is, told_is, usage_is}
use Rattle.je_top.proofs.top.joee.Goals as goal

pub returns-in-Ok-clause-usage : goal.returns-in-Ok-clause-usage
returns-in-Ok-clause-usage g c = usage_is _ _ _ _ c.in-Ok.ensures.due c.put.ensures.status

pub returns-in-Ok-clause-due : goal.returns-in-Ok-clause-due
returns-in-Ok-clause-due g c = due_is _ _ _ _ c.in-Ok.ensures.due c.put.ensures.status

pub returns-in-Ok-clause-told : goal.returns-in-Ok-clause-told
returns-in-Ok-clause-told g c = told_is _ _ _ _ _ _ c.in-Ok.ensures.due c.put.ensures.status c.put.ensures.text

pub returns-in-Ok-clause-runs : goal.returns-in-Ok-clause-runs
returns-in-Ok-clause-runs g c = runs_is _ _ _ _ c.in-Ok.ensures.due c.put.ensures.status

pub returns-in-Ok-clause-not_built : goal.returns-in-Ok-clause-not_built
returns-in-Ok-clause-not_built g c = not_built_is _ _ _ _ c.in-Ok.ensures.due c.put.ensures.status

pub returns-in-Ok-clause-read_grew : goal.returns-in-Ok-clause-read_grew
returns-in-Ok-clause-read_grew g c = grew_is _ _ _ _ c.in-Ok.ensures.grew c.put.ensures.status

pub returns-in-Ok-clause-completes : goal.returns-in-Ok-clause-completes
returns-in-Ok-clause-completes g c = completes_is _ _ _ _ _ _ _ c.in-Ok.ensures.due c.in-Ok.ensures.caused c.put.ensures.status c.put.ensures.write_fault

pub returns-in-Ok-clause-completes_run : goal.returns-in-Ok-clause-completes_run
returns-in-Ok-clause-completes_run g c = run_completes_is _ _ _ _ _ _ _ c.in-Ok.ensures.due c.in-Ok.ensures.caused c.put.ensures.status c.put.ensures.write_fault

pub returns-in-Err-Ends-clause-usage : goal.returns-in-Err-Ends-clause-usage
returns-in-Err-Ends-clause-usage g c = usage_is _ _ _ _ (rw c.in-Err-Ends.field-0-is at c.in-Err-Ends.ensures.due) c.put-in-Err-Ends.ensures.status

pub returns-in-Err-Ends-clause-due : goal.returns-in-Err-Ends-clause-due
returns-in-Err-Ends-clause-due g c = due_is _ _ _ _ (rw c.in-Err-Ends.field-0-is at c.in-Err-Ends.ensures.due) c.put-in-Err-Ends.ensures.status

pub returns-in-Err-Ends-clause-told : goal.returns-in-Err-Ends-clause-told
returns-in-Err-Ends-clause-told g c = told_is _ _ _ _ _ _ (rw c.in-Err-Ends.field-0-is at c.in-Err-Ends.ensures.due) c.put-in-Err-Ends.ensures.status c.put-in-Err-Ends.ensures.text

pub returns-in-Err-Ends-clause-runs : goal.returns-in-Err-Ends-clause-runs
returns-in-Err-Ends-clause-runs g c = runs_is _ _ _ _ (rw c.in-Err-Ends.field-0-is at c.in-Err-Ends.ensures.due) c.put-in-Err-Ends.ensures.status

pub returns-in-Err-Ends-clause-not_built : goal.returns-in-Err-Ends-clause-not_built
returns-in-Err-Ends-clause-not_built g c = not_built_is _ _ _ _ (rw c.in-Err-Ends.field-0-is at c.in-Err-Ends.ensures.due) c.put-in-Err-Ends.ensures.status

pub returns-in-Err-Ends-clause-read_grew : goal.returns-in-Err-Ends-clause-read_grew
returns-in-Err-Ends-clause-read_grew g c = grew_is _ _ _ _ (rw c.in-Err-Ends.field-0-is at c.in-Err-Ends.ensures.grew) c.put-in-Err-Ends.ensures.status

pub returns-in-Err-Ends-clause-completes : goal.returns-in-Err-Ends-clause-completes
returns-in-Err-Ends-clause-completes g c = completes_is _ _ _ _ _ _ _ (rw c.in-Err-Ends.field-0-is at c.in-Err-Ends.ensures.due) (rw c.in-Err-Ends.field-0-is at c.in-Err-Ends.ensures.caused) c.put-in-Err-Ends.ensures.status c.put-in-Err-Ends.ensures.write_fault

pub returns-in-Err-Ends-clause-completes_run : goal.returns-in-Err-Ends-clause-completes_run
returns-in-Err-Ends-clause-completes_run g c = run_completes_is _ _ _ _ _ _ _ (rw c.in-Err-Ends.field-0-is at c.in-Err-Ends.ensures.due) (rw c.in-Err-Ends.field-0-is at c.in-Err-Ends.ensures.caused) c.put-in-Err-Ends.ensures.status c.put-in-Err-Ends.ensures.write_fault
