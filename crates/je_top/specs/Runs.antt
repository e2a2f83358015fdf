-- What `run FILE` comes to, by the bytes of the file: the verdict on them under a taming text that enables nothing, and, where they are
-- accepted, how the load and the `main` of the first class end (JLS 12.1.4, 12.4).
use Rattle.std.specs.Prelude.{⊤, ◌≡◌, ℕ, List, [], ◌∷◌, Option, Some, None, Ok}
use Rattle.class_names.specs.BinaryNames.{binary_name}
use Rattle.host_text.specs.declared.finding.Finding.{Finding}
use Rattle.je_core.specs.Core.{CoreProgram}
use Rattle.je_core.specs.declared.types.ClassId.{ClassId}
use Rattle.je_core.specs.declared.value.Value.TheVariants.{Int}
use Rattle.je_interp.specs.declared.running.RunEnd.{RunEnd}
use Rattle.je_interp.specs.declared.running.RunEnd.TheVariants.{Done, LoadSpentIn, LoadThrownIn, Spent, Thrown}
use Rattle.je_top.specs.Judgement.{IsAccepted, Judged}
use Rattle.je_top.specs.Judgement as verdict
use Rattle.least_taming.specs.Least.{least_text}
use Rattle.main_runs.specs.Mains.{main_run}
use Rattle.taming_db.specs.Rows.{Row}
use Rattle.taming_db.specs.Taming.{Says}
use Rattle.je_top.specs.Outcome.{Outcome, init_spent, init_thrown, not_built, refused, replied, spent, thrown}

-- How a run ends, for who reads of it, with the binary name of each class. No `main`, and what no program does that fits its types,
-- goes by the file.
abbrev pub of_end : List ℕ → (ClassId → List ℕ) → Option RunEnd → Outcome
of_end file named (Some (Done (Some (Int value)))) = replied value
of_end file named (Some (Thrown exception)) = thrown
of_end file named (Some Spent) = spent
of_end file named (Some (LoadThrownIn class)) = init_thrown (named class)
of_end file named (Some (LoadSpentIn class)) = init_spent (named class)
of_end file named _ = not_built file

-- the run of a program
abbrev pub of_program : List ℕ → List (List ℕ) → CoreProgram → Outcome
of_program file names program = of_end file (binary_name program names) (main_run names program)

-- the file's verdict under these rows, and the run of what is accepted
pub data ComesUnder (file bytes : List ℕ) (rows : List Row) (o : Outcome) : Type 0 where
  refuses : {found : List Finding} → Judged (bytes ∷ []) rows (verdict.refused found) → o ≡ refused (file ∷ []) found → ComesUnder file bytes rows o
  does_not_fit : Judged (bytes ∷ []) rows verdict.misfit → o ≡ not_built file → ComesUnder file bytes rows o
  runs : {names : List (List ℕ)} {program : CoreProgram} → IsAccepted (bytes ∷ []) names program rows → o ≡ of_program file names program →
      ComesUnder file bytes rows o

pub record RunsTo (file bytes : List ℕ) (o : Outcome) : Type 0 where
  pub rows : List Row
  pub says : Says least_text (Ok rows)
  pub comes : ComesUnder file bytes rows o

-- ---- of accepted files

-- the file is accepted under the least text, as this program
pub record IsRunnable (bytes : List ℕ) (names : List (List ℕ)) (program : CoreProgram) : Type 0 where
  pub rows : List Row
  pub says : Says least_text (Ok rows)
  pub accepted : IsAccepted (bytes ∷ []) names program rows

-- the load came to its end, and then `main` replied, threw or spent its units
abbrev pub IsEndOfMain : Option RunEnd → Type 0
IsEndOfMain (Some (Done (Some (Int value)))) = ⊤
IsEndOfMain (Some (Thrown exception)) = ⊤
IsEndOfMain (Some Spent) = ⊤
IsEndOfMain _ = ⊥
