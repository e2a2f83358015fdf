use Rattle.std.proofs.Common.{◌≡◌, drop}
use Rattle.std.specs.List.{list_any}
use Rattle.name_lookup.specs.View.{numbers}
use Rattle.type_faults.specs.Program.{source_in}
use Rattle.name_judge.proofs.Back.{leads}
use Rattle.name_judge.proofs.cycles.Cycles.lead_back.Given as goal

abbrev pub invariant-loop-other : goal.invariant-loop-other
invariant-loop-other l = list_any (leads (source_in l.program) l.class.0) (numbers (drop l.other-index l.named)) ≡ list_any (leads (source_in l.program) l.class.0) (numbers l.named)
