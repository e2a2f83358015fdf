-- Why a command ends early, and what one that has ended came to. Want of memory says nothing.
use Rattle.std.specs.Prelude.{⊤, Result, Ok, Err}
use Rattle.je_top.specs.Outcome.{Outcome, outcome_view}
use Rattle.je_top.specs.declared.outcome.Outcome as memory
use Rattle.je_top.specs.declared.reading.Stop.{Stop}
use Rattle.je_top.specs.declared.reading.Stop.TheVariants as stop

-- what is true of the outcome, where there is one
abbrev pub Ends : (Outcome → Type 0) → Stop → Type 0
Ends P stop.Memory = ⊤
Ends P (stop.Ends o) = P (outcome_view o)

-- a command ended early, and this is true of the outcome
abbrev pub EndsEarly : {A : Type 0} → (Outcome → Type 0) → Result A Stop → Type 0
EndsEarly P (Ok a) = ⊥
EndsEarly P (Err s) = Ends P s

-- a command ended, and this is true of the outcome
abbrev pub ComesTo : (Outcome → Type 0) → Result memory.Outcome Stop → Type 0
ComesTo P (Ok o) = P (outcome_view o)
ComesTo P (Err s) = Ends P s
