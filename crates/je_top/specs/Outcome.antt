-- What a call of the program may come to, with the status that tells of it.
use Rattle.std.specs.Prelude.{ℕ, ℤ, List, map, string_bytes}
use Rattle.host_text.specs.declared.finding.Finding.{Finding}
use Rattle.taming_db.specs.declared.fault.TamingRule.{TamingRule}
use Rattle.je_top.specs.declared.outcome.Outcome as memory
use Rattle.je_top.specs.declared.outcome.Outcome.TheVariants as in_memory
use Rattle.je_top.specs.declared.status.Status.{Status}
use Rattle.je_top.specs.declared.status.Status.TheVariants as status

-- Of a file its name; of a taming text the number of the table, and the rule; of a program the names of its files; of a class
-- its name.
pub data Outcome : Type 0 where
  usage : Outcome
  missing : List ℕ → Outcome
  too_long : List ℕ → Outcome
  failed : List ℕ → Outcome
  taming_refused : ℕ → TamingRule → Outcome
  accepted : Outcome
  refused : List (List ℕ) → List Finding → Outcome
  replied : ℤ → Outcome
  thrown : Outcome
  spent : Outcome
  init_thrown : List ℕ → Outcome
  init_spent : List ℕ → Outcome
  not_built : List ℕ → Outcome

-- an outcome in memory
abbrev pub outcome_view : memory.Outcome → Outcome
outcome_view in_memory.Usage = usage
outcome_view (in_memory.Missing name) = missing name.now
outcome_view (in_memory.TooLong name) = too_long name.now
outcome_view (in_memory.Failed name) = failed name.now
outcome_view (in_memory.TamingRefused table rule) = taming_refused table rule
outcome_view in_memory.Accepted = accepted
outcome_view (in_memory.Refused sources found) = refused (map string_bytes sources.now) found.items
outcome_view (in_memory.Replied value) = replied value
outcome_view in_memory.Thrown = thrown
outcome_view in_memory.Spent = spent
outcome_view (in_memory.InitThrown class) = init_thrown class.items
outcome_view (in_memory.InitSpent class) = init_spent class.items
outcome_view (in_memory.NotBuilt name) = not_built name.now

abbrev pub status_of : Outcome → Status
status_of usage = status.Usage
status_of (missing name) = status.NotThere
status_of (too_long name) = status.TooLong
status_of (failed name) = status.ReadFault
status_of (taming_refused table rule) = status.TamingRefused
status_of accepted = status.Ok
status_of (refused sources found) = status.Refused
status_of (replied value) = status.Ok
status_of thrown = status.Ok
status_of spent = status.Ok
status_of (init_thrown class) = status.InitFailed
status_of (init_spent class) = status.InitFailed
status_of (not_built name) = status.NotBuilt
