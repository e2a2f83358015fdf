-- Which reads and puts are to fail, and how many there were, after a call of the program.
use Rattle.std.specs.Prelude.{◌≡◌, ℕ, zero, suc, ◌+◌, ◌<◌, ◌≤◌, List, length, Result, Ok, Err, IfSome, Some, None}
use Rattle.std.specs.declared.option.Option.{Option}
use Rattle.planned_faults.specs.Plan.{Plan, after_one, IsPlanned}
use Rattle.je_top.specs.declared.files.FileFault.{FileFault}
use Rattle.je_top.specs.declared.files.FileFault.TheVariants.{NotThere, TooLong, Failed, Memory}
use Rattle.je_top.specs.Files.{Held}
use Rattle.je_top.specs.Words.{Command, run, check}

-- what is told of a plan, after so many calls
abbrev pub after_many : ℕ → Option Plan → Option Plan
after_many zero plan = plan
after_many (suc n) plan = after_one (after_many n plan)

-- one of the next calls is to fail, of so many
pub record FailsAmong (calls : ℕ) (plan : Option Plan) : Type 0 where
  pub before : ℕ
  pub among : before < calls
  pub planned : IsPlanned (after_many before plan)

-- The reads of a command: of `run` one, of `check` the taming text and some of the files.
abbrev pub AreReads : Option Command → Option Plan → Option Plan → Type 0
AreReads None before after = after ≡ before
AreReads (Some (run file)) before after = after ≡ after_one before
AreReads (Some (check taming sources)) before after = (n : ℕ) × (n ≤ length sources) × (after ≡ after_many n (after_one before))

-- one of the reads of a command is to fail
abbrev pub IsPlannedFor : Option Command → Option Plan → Type 0
IsPlannedFor None plan = ⊥
IsPlannedFor (Some (run file)) plan = IsPlanned plan
IsPlannedFor (Some (check taming sources)) plan = FailsAmong (length sources + 1) plan

-- the read failed, unless memory ran out before that
abbrev pub SaysFailed : Result Unit FileFault → Type 0
SaysFailed (Ok done) = ⊥
SaysFailed (Err NotThere) = ⊥
SaysFailed (Err TooLong) = ⊥
SaysFailed (Err Failed) = Unit {0}
SaysFailed (Err Memory) = Unit {0}

-- where a file of this name is held, the read failed
abbrev pub FailsIfHeld : Option Held → List ℕ → Result Unit FileFault → Type 0
FailsIfHeld held name result =
    IfSome held (λ files. IfSome (files name) (λ bytes. SaysFailed result))
