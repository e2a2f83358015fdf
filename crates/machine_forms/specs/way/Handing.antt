-- What the filling of hidden fields comes to.
use Rattle.std.specs.Prelude.{◌≡◌, ℕ}
use Rattle.je_core.specs.declared.program.Program.{Program}
use Rattle.je_core.specs.declared.types.ClassId.{ClassId}
use Rattle.je_core.specs.declared.value.ObjId.{ObjId}
use Rattle.je_core.specs.declared.value.Value.{Value}
use Rattle.je_core.specs.Core.{CoreProgram}
use Rattle.je_core.specs.View.{program_view}
use Rattle.je_heap.specs.Contents.{Contents}
use Rattle.je_classes.specs.Slots.{field_slot}
use Rattle.je_java.specs.Steps.{Outside, Run, Exits, Computation, ◌>>=◌, seq, need, put_slot}
use Rattle.machine_parts.specs.declared.frame.Env.{Env}
use Rattle.machine_parts.specs.declared.frame.Fetched.{Fetched}
use Rattle.machine_parts.specs.Ways.{own_of, state_of}
use Rattle.machine_parts.specs.way.Clauses.{fetched_ways}

-- a value goes into a field of a new object
abbrev pub put_into : CoreProgram → ClassId → ℕ → ObjId → Value → Computation Value
put_into program class field object value = do
  slot ← need (field_slot program class field)
  put_slot object slot value

-- a hidden field took the value that was found for it, in a body with these variables
abbrev pub Hands : Program → Contents → Contents → Env → (CoreProgram → Computation Value) → Fetched → Type 0
Hands program before after env f found = (go : Value → Run) (exits : Exits) (units begun : ℕ) (outside : Outside) →
    fetched_ways (program_view program) found go exits (state_of units begun after outside (own_of env)) ≡
    f (program_view program) go exits (state_of units begun before outside (own_of env))

-- hidden fields took theirs, and it goes on; or one of them ended it
abbrev pub HandsAll : Program → Contents → Contents → Env → (CoreProgram → Computation Value → Computation Value) → Fetched → Type 0
HandsAll program before after env f found = (next : Computation Value) (go : Value → Run) (exits : Exits) (units begun : ℕ) (outside : Outside) →
    seq (fetched_ways (program_view program) found) next go exits (state_of units begun after outside (own_of env)) ≡
    f (program_view program) next go exits (state_of units begun before outside (own_of env))
