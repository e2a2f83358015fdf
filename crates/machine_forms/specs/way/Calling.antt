-- What the call of a `toString()` comes to.
use Rattle.std.specs.Prelude.{◌≡◌}
use Rattle.je_core.specs.declared.program.Program.{Program}
use Rattle.je_core.specs.declared.value.Value.{Value}
use Rattle.je_core.specs.View.{stmt_view, program_view}
use Rattle.je_heap.specs.Contents.{Contents}
use Rattle.je_java.specs.Steps.{Outside, Own, Run, Exits, Computation, framed}
use Rattle.je_java.specs.Meaning.{Meanings}
use Rattle.machine_parts.specs.declared.frame.Context.{Context}
use Rattle.machine_parts.specs.Ways.{own_of, state_of}
use Rattle.machine_parts.specs.way.Clauses.{ToValue}
use Rattle.machine_forms.specs.declared.telling.Telling.{Telling}
use Rattle.machine_forms.specs.declared.telling.Telling.TheVariants.{Body, Library}
use Rattle.machine_forms.specs.way.Running.{ran_ways}

-- how a run goes on with it
abbrev pub telling_ways : Meanings → Telling → Computation Value
telling_ways m (Body own ends body) = framed (own_of own) ends (m.exec (stmt_view body.value))
telling_ways m (Library ran) = ran_ways ran

-- the call came to that, whatever variables the caller has
abbrev pub Tells : Program → Context → Contents → Context → Contents → ToValue → Telling → Type 0
Tells program old before new after f telling = (m : Meanings) (go : Value → Run) (exits : Exits) (outside : Outside) (own : Own) →
    telling_ways m telling go exits (state_of new.units new.begun after outside own) ≡
    f (program_view program) m go exits (state_of old.units old.begun before outside own)
