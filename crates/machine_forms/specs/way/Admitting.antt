-- What the test of arguments that a call hands on comes to.
use Rattle.std.specs.Prelude.{◌≡◌, ℕ, Option, Some, None, Bool, if◌then◌else◌}
use Rattle.je_core.specs.declared.program.Program.{Program}
use Rattle.je_core.specs.Core.{CoreProgram}
use Rattle.je_core.specs.View.{program_view}
use Rattle.je_heap.specs.Contents.{Contents}
use Rattle.je_java.specs.Raised.{class_cast}
use Rattle.je_java.specs.Steps.{Outside, Own, Run, Exits, Computation, Nothing, ret, wrong, raise}
use Rattle.machine_parts.specs.Ways.{state_of}

-- how a run goes on after the test: none where no program comes
abbrev pub admitted_ways : CoreProgram → Option Bool → Computation Nothing
admitted_ways program None = wrong
admitted_ways program (Some holds) = if holds then ret tt else raise program class_cast

-- the test came to that
abbrev pub Admits : Program → Contents → (CoreProgram → Computation Nothing) → Option Bool → Type 0
Admits program heap f found = (go : Nothing → Run) (exits : Exits) (units begun : ℕ) (outside : Outside) (own : Own) →
    admitted_ways (program_view program) found go exits (state_of units begun heap outside own) ≡
    f (program_view program) go exits (state_of units begun heap outside own)
