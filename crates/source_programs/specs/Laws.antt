-- Files come to one program at most, have no finding where they come to one, and have one first finding.
use Rattle.std.specs.Prelude.{◌≡◌, ℕ, List}
use Rattle.host_text.specs.declared.finding.Finding.{Finding}
use Rattle.je_core.specs.Core.{CoreProgram}
use Rattle.source_programs.specs.Findings.{ComesTo, IsFirst}

abbrev pub OneProgram : Type 0
OneProgram = (files names names1 : List (List ℕ)) (c c1 : CoreProgram) → ComesTo files names c → ComesTo files names1 c1 → c ≡ c1

abbrev pub ProgramOrFinding : Type 0
ProgramOrFinding = (files names : List (List ℕ)) (c : CoreProgram) (x : Finding) → ComesTo files names c → ¬ IsFirst files x

abbrev pub OneFinding : Type 0
OneFinding = (files : List (List ℕ)) (x y : Finding) → IsFirst files x → IsFirst files y → x ≡ y
