use Rattle.std.proofs.Common.{◌≡◌, drop}
use Rattle.text_members.specs.Finding.{index_from}
use Rattle.text_members.proofs.finding.index_of.Given as goal

abbrev pub invariant-loop-at : goal.invariant-loop-at
invariant-loop-at l = index_from l.at (drop l.at l.units) l.part ≡ index_from 0 l.units l.part
