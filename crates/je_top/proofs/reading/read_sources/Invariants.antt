use Rattle.std.proofs.Common.{◌≡◌, ◌≤◌, ℕ, List, ◌++◌, All, drop, length, map}
use Rattle.std.specs.Prelude.{string_bytes}
use Rattle.std.specs.List.{AllZip}
use Rattle.je_top.specs.Files.{file_limit, IsWhole}
use Rattle.je_top.specs.Outcome.{Outcome}
use Rattle.je_top.specs.Plan.{after_many}
use Rattle.je_top.specs.Reading.{StopsAmong}
use Rattle.je_top.proofs.reading.read_sources.Given as goal

-- The files before the name are read whole: what is true of the others, is true of all.
abbrev pub invariant-loop-name : goal.invariant-loop-name
invariant-loop-name g l =
    ((rest : List (List ℕ)) → AllZip (IsWhole (g.F.Files.held l.fn.files)) (map string_bytes (drop l.name-index l.names)) rest
    → AllZip (IsWhole (g.F.Files.held l.fn.files)) (map string_bytes l.names) (map (λ file. file.items) l.sources.items ++ rest))
    × ((o : Outcome) → StopsAmong (g.F.Files.held l.fn.files) (map string_bytes (drop l.name-index l.names)) o
    → StopsAmong (g.F.Files.held l.fn.files) (map string_bytes l.names) o)
    × (length l.sources.items ≡ l.name-index)
    × All (λ file. length file.items ≤ file_limit) l.sources.items
    × (g.F.Files.plan l.files ≡ after_many l.name-index (g.F.Files.plan l.fn.files))
    × (g.F.Files.faults l.files ≡ g.F.Files.faults l.fn.files)
    × (g.F.Files.held l.files ≡ g.F.Files.held l.fn.files)
    × (g.F.Files.is_calm l.fn.files → g.F.Files.is_calm l.files)
