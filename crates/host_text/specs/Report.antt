-- The report of a program's faults: a line for each, and how many there are. Each line ends with LF, and whole numbers are
-- decimal.
use Rattle.std.specs.Prelude.{ℕ, List, [], ◌++◌, length, slice_get, unwrap_or, codes, decimal}
use Rattle.std.specs.List.{flat_map}
use Rattle.je_base.specs.declared.span.Span.{Span}
use Rattle.host_text.specs.declared.finding.Finding.{Finding}
use Rattle.host_text.specs.Rules.{said}

-- the name of a file by its number; what no number names has no text
abbrev pub file_name : List (List ℕ) → ℕ → List ℕ
file_name files at = unwrap_or (slice_get files at) []

-- the first byte, and the byte behind the last
abbrev pub place_text : Span → List ℕ
place_text span = decimal span.start ++ codes ".." ++ decimal span.end

abbrev pub finding_line : List (List ℕ) → Finding → List ℕ
finding_line files f = file_name files f.span.file ++ codes " " ++ place_text f.span ++ codes " " ++ said f.rule ++ codes "\n"

abbrev pub count_line : ℕ → List ℕ
count_line count = codes "refused " ++ decimal count ++ codes "\n"

unfoldable pub report_text : List (List ℕ) → List Finding → List ℕ
report_text files found = flat_map (finding_line files) found ++ count_line (length found)
