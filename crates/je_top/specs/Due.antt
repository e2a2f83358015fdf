-- What a call of the program is to come to, by what its words ask for and what the files hold. Over files that tell, one outcome is due,
-- reads that fail aside.
use Rattle.std.specs.Prelude.{◌≡◌, ℕ, List, [], ◌∷◌, map, string_bytes, length, ◌≤◌, Ok, Err, IsSomeAnd, Some, None}
use Rattle.std.specs.List.{AllZip}
use Rattle.std.specs.declared.option.Option.{Option}
use Rattle.std.specs.declared.alloc.Global.{Global}
use Rattle.std.specs.Prelude.{String}
use Rattle.je_core.specs.Core.{CoreProgram}
use Rattle.main_runs.specs.Mains.{main_of, main_run}
use Rattle.taming_db.specs.Rows.{Row}
use Rattle.taming_db.specs.Taming.{Says}
use Rattle.je_top.specs.Judgement.{Judged, Verdict}
use Rattle.je_top.specs.Judgement as verdict
use Rattle.je_top.specs.Files.{file_limit, Held, IsWhole}
use Rattle.je_top.specs.Outcome.{Outcome, usage, taming_refused, accepted, refused, not_built}
use Rattle.je_top.specs.Reading.{IsFailed, Stops, StopsAmong}
use Rattle.je_top.specs.Runs.{IsEndOfMain, IsRunnable, RunsTo}
use Rattle.je_top.specs.Words.{Command, run, check, command_of}

-- what a command line asks for
abbrev pub asked : List (String Global) → Option Command
asked words = command_of (map string_bytes words)

-- ---- the commands

-- `run FILE`: the file is read whole, and then it is judged and run.
pub data IsDueForRun (held : Option Held) (file : List ℕ) (o : Outcome) : Type 0 where
  stops : Stops held file o → IsDueForRun held file o
  runs_to : {bytes : List ℕ} → IsWhole held file bytes → RunsTo file bytes o → IsDueForRun held file o

abbrev pub first_of : List (List ℕ) → List ℕ
first_of [] = []
first_of (name ∷ names) = name

-- A program that doesn't fit goes by its first file.
abbrev pub of_verdict : List (List ℕ) → Verdict → Outcome
of_verdict sources verdict.accepted = accepted
of_verdict sources (verdict.refused found) = refused sources found
of_verdict sources verdict.misfit = not_built (first_of sources)

-- the taming text has this fault
abbrev pub HasTamingFault : List ℕ → Outcome → Type 0
HasTamingFault text (taming_refused table rule) = Says text (Err (table, rule))
HasTamingFault text _ = ⊥

-- the outcome is that of the verdict on the files under the rows
pub record IsJudged (sources files : List (List ℕ)) (rows : List Row) (o : Outcome) : Type 0 where
  pub verdict : Verdict
  pub judged : Judged files rows verdict
  pub is : o ≡ of_verdict sources verdict

-- `check TAMING FILE...`: the taming text is read and judged, then all files are read, and then the program is judged.
pub data IsDueForCheck (held : Option Held) (taming : List ℕ) (sources : List (List ℕ)) (o : Outcome) : Type 0 where
  taming_stops : Stops held taming o → IsDueForCheck held taming sources o
  taming_has_fault : {text : List ℕ} → IsWhole held taming text → HasTamingFault text o → IsDueForCheck held taming sources o
  source_stops : {text : List ℕ} {rows : List Row} → IsWhole held taming text → Says text (Ok rows) → StopsAmong held sources o →
      IsDueForCheck held taming sources o
  is_judged : {text : List ℕ} {rows : List Row} {files : List (List ℕ)} → IsWhole held taming text → Says text (Ok rows) →
      AllZip (IsWhole held) sources files → IsJudged sources files rows o → IsDueForCheck held taming sources o

abbrev pub IsDue : Option Held → Option Command → Outcome → Type 0
IsDue held None o = o ≡ usage
IsDue held (Some (run file)) o = IsDueForRun held file o
IsDue held (Some (check taming sources)) o = IsDueForCheck held taming sources o

-- Over files that tell, one outcome is due, reads that fail aside.
abbrev pub OneOutcomeIsDue : Type 0
OneOutcomeIsDue = (files : Held) (c : Option Command) (o p : Outcome) → ¬ IsFailed o → ¬ IsFailed p → IsDue (Some files) c o → IsDue (Some files) c p →
    o ≡ p

-- ---- of single commands

-- the file that is asked to be run
abbrev pub run_file : Option Command → Option (List ℕ)
run_file (Some (run file)) = Some file
run_file _ = None

abbrev pub asked_file : List (String Global) → Option (List ℕ)
asked_file words = run_file (asked words)

-- the file that is read first
abbrev pub first_file : Option Command → Option (List ℕ)
first_file None = None
first_file (Some (run file)) = Some file
first_file (Some (check taming sources)) = Some taming

-- the file that is asked for is held, and this is true of it
abbrev pub AsksFor : Option (List ℕ) → Held → (List ℕ → Type 0) → Type 0
AsksFor file held P = IsSomeAnd file (λ name. IsSomeAnd (held name) P)

-- a file within the limit that is accepted, and whose `main` is run
pub record CanRun (file : List ℕ) : Type 0 where
  pub names : List (List ℕ)
  pub program : CoreProgram
  pub within : length file ≤ file_limit
  pub runnable : IsRunnable file names program
  pub ends : IsEndOfMain (main_run names program)

-- a file within the limit that is accepted, and whose first class has no `main`
pub record LacksMain (file : List ℕ) : Type 0 where
  pub names : List (List ℕ)
  pub program : CoreProgram
  pub within : length file ≤ file_limit
  pub runnable : IsRunnable file names program
  pub lacks : main_of names program ≡ None
