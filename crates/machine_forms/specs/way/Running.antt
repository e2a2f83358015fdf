-- What the running of a member of a library class comes to.
use Rattle.std.specs.Prelude.{◌≡◌}
use Rattle.je_core.specs.declared.program.Program.{Program}
use Rattle.je_core.specs.declared.value.Value.{Value as OneValue}
use Rattle.je_core.specs.Core.{CoreProgram}
use Rattle.je_core.specs.View.{program_view}
use Rattle.je_heap.specs.Contents.{Contents}
use Rattle.je_java.specs.Steps.{Outside, Own, Run, Exits, Computation, ret, wrong, spent, throw}
use Rattle.machine_parts.specs.declared.frame.Context.{Context}
use Rattle.machine_parts.specs.Ways.{state_of}
use Rattle.machine_forms.specs.declared.library.Ran.{Ran}
use Rattle.machine_forms.specs.declared.library.Ran.TheVariants.{Value, Throws, Spent, Wrong}

-- how a run goes on with what a member came to
abbrev pub ran_ways : Ran → Computation OneValue
ran_ways (Value value) = ret value
ran_ways (Throws exception) = throw exception
ran_ways Spent = spent
ran_ways Wrong = wrong

-- the member came to that, whatever variables the body has
abbrev pub Runs : Program → Context → Contents → Context → Contents → (CoreProgram → Computation OneValue) → Ran → Type 0
Runs program old before new after f ran = (go : OneValue → Run) (exits : Exits) (outside : Outside) (own : Own) →
    ran_ways ran go exits (state_of new.units new.begun after outside own) ≡
    f (program_view program) go exits (state_of old.units old.begun before outside own)
