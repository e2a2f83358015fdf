-- What `judge` answers is the verdict.
use Rattle.je_top.proofs.CheckLemmas.{is_accepted, is_misfit, is_refused}
use Rattle.je_top.proofs.deciding.judged.Goals as goal

pub returns-in-Ok : goal.returns-in-Ok
returns-in-Ok c = is_accepted _ _ _ _ _ c.in-Ok.ensures.ok

pub returns-in-Err-Found : goal.returns-in-Err-Found
returns-in-Err-Found c = is_refused _ _ _ c.in-Err-Found.found.items (rw c.in-Err-Found.field-0-is at c.in-Err-Found.ensures.err)

pub returns : goal.returns
returns c =
    is_misfit _ _ _ c.in-Err-Misfit.field-0-0 c.in-Err-Misfit.field-0-1 _ c.first_of.ensures
    (rw c.in-Err-Misfit.field-0-is at c.in-Err-Misfit.ensures.err)
