use Rattle.std.proofs.Common.{◌≡◌, length}
use Rattle.name_judge.specs.way.Bounds.{leads, next_of}
use Rattle.name_judge.proofs.bounds.leads_back.Given as goal

abbrev pub invariant-loop-further : goal.invariant-loop-further
invariant-loop-further l = leads l.next l.steps l.further l.at ≡ leads l.next (length l.next) (next_of l.next l.at) l.at

abbrev pub decreases-loop-further : goal.decreases-loop-further
decreases-loop-further l = l.steps
