use Rattle.std.proofs.Common.{◌≡◌, ◌++◌, drop, map}
use Rattle.std.specs.declared.alloc.Global.{Global}
use Rattle.std.specs.declared.vec.Vec.{Vec}
use Rattle.body_places.specs.declared.tables.Captured.{Captured}
use Rattle.type_faults.specs.Program.{source_in}
use Rattle.program_tables.specs.way.Places.{all_places}
use Rattle.program_tables.proofs.program.captured_fields.Given as goal

abbrev pub invariant-loop-at : goal.invariant-loop-at
invariant-loop-at l =
    map (λ (fs : Vec Captured Global). fs.items) l.all.items
    ++ all_places (source_in l.layout.source) l.at (drop l.at l.layout.captured.now)
    ≡ all_places (source_in l.layout.source) 0 l.layout.captured.now
