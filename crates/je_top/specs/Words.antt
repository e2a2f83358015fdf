-- The command line, a list of words: the program's name, a command and its words. No word is empty or begins with a dash.
use Rattle.std.specs.Prelude.{⊤, ℕ, ◌≤◌, List, [], ◌∷◌, Bool, false, not, ◌==◌, ◌||◌, codes, length, map, string_bytes, nat_eq, nat_lt, Some, None, if◌then◌else◌}
use Rattle.std.specs.declared.option.Option.{Option}
use Rattle.std.specs.List.{list_all}
use Rattle.std.specs.Str.{bytes_eq}
use Rattle.je_top.specs.declared.words.Command as memory
use Rattle.je_top.specs.declared.words.Command.TheVariants as in_memory

-- what a command line asks for: to run a file, or to judge files under a taming text
pub data Command : Type 0 where
  run : List ℕ → Command
  check : List ℕ → List (List ℕ) → Command

-- a command in memory
abbrev pub command_view : memory.Command → Command
command_view (in_memory.Run file) = run (string_bytes file.now)
command_view (in_memory.Check taming sources) = check taming.now (map string_bytes sources.now)

-- the code of `-`
abbrev pub dash : ℕ
dash = 45

-- neither empty nor an option
abbrev pub is_plain : List ℕ → Bool
is_plain [] = false
is_plain (first ∷ rest) = not (first == dash)

-- the most files that a program may have
abbrev pub source_limit : ℕ
source_limit = 16

abbrev pub HasFewSources : memory.Command → Type 0
HasFewSources (in_memory.Run file) = ⊤
HasFewSources (in_memory.Check taming sources) = length sources.now ≤ source_limit

-- one file
abbrev pub to_run : List (List ℕ) → Option Command
to_run (file ∷ []) = Some (run file)
to_run _ = None

-- a taming text, and at least one file, but not too many
abbrev pub to_check : List (List ℕ) → Option Command
to_check [] = None
to_check (taming ∷ sources) = if nat_eq (length sources) 0 || nat_lt source_limit (length sources) then None else Some (check taming sources)

-- what the words behind the name of a command ask for
abbrev pub by_name : List ℕ → List (List ℕ) → Option Command
by_name command rest =
    if bytes_eq command (codes "run") then to_run rest
    else if bytes_eq command (codes "check") then to_check rest
    else None

abbrev pub of_plain : List (List ℕ) → Option Command
of_plain (program ∷ command ∷ rest) = by_name command rest
of_plain _ = None

-- what the words ask for, where they are in the grammar
abbrev pub command_of : List (List ℕ) → Option Command
command_of words = if list_all is_plain words then of_plain words else None
