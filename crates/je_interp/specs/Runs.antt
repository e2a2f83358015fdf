-- A program's run: its load, and a call from the world that the load leaves.
use Rattle.std.specs.Prelude.{ℕ, List, Option, Some, None, option_and_then}
use Rattle.je_core.specs.Core.{CoreProgram}
use Rattle.je_core.specs.declared.types.ClassId.{ClassId}
use Rattle.je_java.specs.Steps.{Answer, Done as DoneWith, Thrown as ThrownWith, Spent as SpentWith}
use Rattle.je_load.specs.Loading.{End, Loaded, ThrownIn, SpentIn, load}
use Rattle.machine_parts.specs.declared.frame.Call.{Call}
use Rattle.machine_parts.specs.declared.frame.Next.{Next}
use Rattle.machine_parts.specs.declared.frame.Next.TheVariants.{Done as DoneNext, Thrown as ThrownNext, Spent as SpentNext}
use Rattle.je_interp.specs.Finish.{outcome}
use Rattle.je_interp.specs.declared.running.RunEnd.{RunEnd}
use Rattle.je_interp.specs.declared.running.RunEnd.TheVariants.{LoadThrownIn, LoadSpentIn, Done, Thrown, Spent}

-- how a call ends, in which all classes have been started; none where it comes to what no program does that fits its types
abbrev pub call_end : Answer → Option RunEnd
call_end (DoneWith reply s) = Some (Done reply)
call_end (ThrownWith exception s) = Some (Thrown exception)
call_end (SpentWith s) = Some Spent
call_end _ = None

-- by what the machine answers
abbrev pub end_told : Next → Option RunEnd
end_told (DoneNext reply) = Some (Done reply)
end_told (ThrownNext exception) = Some (Thrown exception)
end_told SpentNext = Some Spent
end_told _ = None

-- behind a load: its own end, or that of the call
abbrev pub run_behind : CoreProgram → ℕ → Call → End → Option RunEnd
run_behind program units call (Loaded world) = call_end (outcome program units call world)
run_behind program units call (ThrownIn class) = Some (LoadThrownIn class)
run_behind program units call (SpentIn class) = Some (LoadSpentIn class)

-- over devices with these interfaces, of a call with so many units
abbrev pub run : CoreProgram → List ClassId → ℕ → Call → Option RunEnd
run program interfaces units call = option_and_then (run_behind program units call) (load program interfaces)
