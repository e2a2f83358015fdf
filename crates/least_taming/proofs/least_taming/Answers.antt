-- The text is read without a fault.
use Rattle.least_taming.proofs.Saying.{has_no_fault}
use Rattle.least_taming.proofs.least_taming.Goals as goal

pub unreachable-requires : goal.unreachable-requires
unreachable-requires c = has_no_fault _ _ (rw c.in-Err-Refused.field-0-is at c.in-Err-Refused.ensures.err)
