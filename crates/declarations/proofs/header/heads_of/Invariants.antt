use Rattle.std.proofs.Common.{◌≡◌, ◌++◌, ◌-◌, length, map, drop}
use Rattle.je_scopes.specs.Scope.{header}
use Rattle.je_scopes.specs.Settled.{heads_of}
use Rattle.name_types.specs.View.{shown}
use Rattle.type_faults.specs.Program.{source_in}
use Rattle.declarations.specs.Declarations.{type_at}
use Rattle.declarations.proofs.header.heads_of.Given as goal

abbrev pub invariant-loop-head : goal.invariant-loop-head
invariant-loop-head l = map shown l.heads.items ++ map (type_at (source_in l.program) l.class.0 header) (drop l.at (heads_of (source_in l.program) l.class.0))
    ≡ map (type_at (source_in l.program) l.class.0 header) (heads_of (source_in l.program) l.class.0)

abbrev pub decreases-loop-head : goal.decreases-loop-head
decreases-loop-head l = length (heads_of (source_in l.program) l.class.0) - l.at
