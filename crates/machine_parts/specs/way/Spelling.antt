-- What a value comes to as a text, and the making of a string.
use Rattle.std.specs.Prelude.{◌≡◌, ℕ, List, Option}
use Rattle.je_core.specs.declared.value.ObjId.{ObjId}
use Rattle.je_core.specs.declared.value.Value.{Value}
use Rattle.je_heap.specs.Contents.{Contents}
use Rattle.je_java.specs.Steps.{Outside, Own, Run, Exits, Computation, ret, wrong, need, ◌>>=◌, make_text}
use Rattle.je_java.specs.Texts.{units_told, text_of}
use Rattle.machine_parts.specs.declared.frame.Context.{Context}
use Rattle.machine_parts.specs.declared.frame.Made.{Made}
use Rattle.machine_parts.specs.declared.text.Spelled.{Spelled}
use Rattle.machine_parts.specs.declared.text.Spelled.TheVariants.{Units, Told, Wrong}
use Rattle.machine_parts.specs.Ways.{state_of, state}
use Rattle.machine_parts.specs.way.Clauses.{made_ways}

-- how a run goes on with what a value came to as a text
abbrev pub spelled_ways : (ObjId → Computation Value) → Spelled → Computation (List ℕ)
spelled_ways to_string (Units units) = ret units
spelled_ways to_string (Told object) = do
  told ← to_string object
  units_told told
spelled_ways to_string Wrong = wrong

-- the value came to that as a text
abbrev pub Spells : Contents → Value → Spelled → Type 0
Spells heap value found = (to_string : ObjId → Computation Value) (go : List ℕ → Run) (exits : Exits) (units begun : ℕ) (outside : Outside) (own : Own) →
    spelled_ways to_string found go exits (state_of units begun heap outside own) ≡
    text_of to_string value go exits (state_of units begun heap outside own)

-- the value that a `toString()` gave has those units
abbrev pub TellsUnits : Contents → Value → Option (List ℕ) → Type 0
TellsUnits heap told found = (go : List ℕ → Run) (exits : Exits) (units begun : ℕ) (outside : Outside) (own : Own) →
    need found go exits (state_of units begun heap outside own) ≡
    units_told told go exits (state_of units begun heap outside own)

-- a string's making came to that
abbrev pub MakesText : List ℕ → Context → Contents → Context → Contents → Made → Type 0
MakesText text old before new after made = (go : ObjId → Run) (exits : Exits) (outside : Outside) →
    made_ways made go (state new after outside) ≡ make_text text go exits (state old before outside)
