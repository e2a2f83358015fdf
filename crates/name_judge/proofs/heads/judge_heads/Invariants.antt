use Rattle.std.proofs.Common.{◌-◌, length, drop}
use Rattle.std.specs.List.{flat_map}
use Rattle.je_scopes.specs.Settled.{heads_of}
use Rattle.je_scopes.specs.Faults.{of_head}
use Rattle.name_faults.proofs.Left.{Left}
use Rattle.type_faults.specs.Program.{source_in}
use Rattle.name_judge.proofs.heads.judge_heads.Given as goal

abbrev pub invariant-loop-head : goal.invariant-loop-head
invariant-loop-head l = Left l.initial.faults l.faults (flat_map (of_head (source_in l.program) l.class.0) (drop l.at (heads_of (source_in l.program) l.class.0)))
    (flat_map (of_head (source_in l.program) l.class.0) (heads_of (source_in l.program) l.class.0))

abbrev pub decreases-loop-head : goal.decreases-loop-head
decreases-loop-head l = length (heads_of (source_in l.program) l.class.0) - l.at
