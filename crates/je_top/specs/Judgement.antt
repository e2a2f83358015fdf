-- The verdict on the files of a program under the rows of a taming text. The phases are those of the language (JLS), and then the
-- rules of Joe-E (Mettler, Wagner, Close, 'Joe-E: A Security-Oriented Subset of Java', NDSS 2010).
use Rattle.std.specs.Prelude.{⊤, ◌≡◌, ℕ, List, [], ◌∷◌, map}
use Rattle.je_base.specs.declared.span.NameId.{NameId}
use Rattle.je_core.specs.Core.{CoreProgram}
use Rattle.je_core.specs.declared.types.ClassId.{ClassId}
use Rattle.je_fitting.specs.Program.{FitsProgram}
use Rattle.host_text.specs.declared.finding.Finding.{Finding}
use Rattle.host_text.specs.declared.rules.Rule.TheVariants as rule
use Rattle.rule_breaks.specs.declared.breaks.Break.{Break}
use Rattle.taming_db.specs.Rows.{Row}
use Rattle.je_verify.specs.Broken.{IsRefusal, IsUnbroken}
use Rattle.source_programs.specs.Findings.{ComesTo, IsFirst, IsMisfitOf}
use Rattle.je_top.specs.declared.refusal.Refusal.{Refusal}
use Rattle.je_top.specs.declared.refusal.Refusal.TheVariants as refusal

-- The files come to this program, under these names; it fits, and breaks no rule.
pub record IsAccepted (files names : List (List ℕ)) (program : CoreProgram) (rows : List Row) : Type 0 where
  pub comes : ComesTo files names program
  pub fits : FitsProgram program
  pub unbroken : IsUnbroken program rows

-- a break of a rule as a finding
abbrev pub of_break : Break → Finding
of_break b = record { rule = rule.Confinement b.rule; span = b.span }

-- what is found: the first finding of the phases before the rules, or the breaks of all rules, in order and each once
pub data HasFindings (files : List (List ℕ)) (rows : List Row) : List Finding → Type 0 where
  before_rules : {x : Finding} → IsFirst files x → HasFindings files rows (x ∷ [])
  of_rules : {names : List (List ℕ)} {program : CoreProgram} {breaks : List Break} → ComesTo files names program → FitsProgram program →
      IsRefusal program rows breaks → HasFindings files rows (map of_break breaks)

-- Memory may be wanting at any time.
abbrev pub IsRefused : List (List ℕ) → List Row → Refusal → Type 0
IsRefused files rows refusal.Memory = ⊤
IsRefused files rows (refusal.Found found) = HasFindings files rows found.items
IsRefused files rows (refusal.Misfit class name) = IsMisfitOf files class name

-- ---- the verdict

pub data Verdict : Type 0 where
  accepted : Verdict
  refused : List Finding → Verdict
  misfit : Verdict

pub data Judged (files : List (List ℕ)) (rows : List Row) : Verdict → Type 0 where
  accepts : {names : List (List ℕ)} {program : CoreProgram} → IsAccepted files names program rows → Judged files rows accepted
  refuses : {found : List Finding} → HasFindings files rows found → Judged files rows (refused found)
  does_not_fit : {class : ClassId} {name : NameId} → IsMisfitOf files class name → Judged files rows misfit

-- ---- laws

-- Files and rows have one verdict.
abbrev pub VerdictIsOne : Type 0
VerdictIsOne = (files : List (List ℕ)) (rows : List Row) (v w : Verdict) → Judged files rows v → Judged files rows w → v ≡ w

-- They come to one accepted program, under one list of names.
abbrev pub AcceptedIsOne : Type 0
AcceptedIsOne = (files names names1 : List (List ℕ)) (program program1 : CoreProgram) (rows : List Row) → IsAccepted files names program rows →
    IsAccepted files names1 program1 rows → (names ≡ names1) × (program ≡ program1)

-- They have one list of breaks.
abbrev pub BreaksAreOne : Type 0
BreaksAreOne = (files names names1 : List (List ℕ)) (program program1 : CoreProgram) (rows : List Row) (breaks breaks1 : List Break) →
    ComesTo files names program → ComesTo files names1 program1 → IsRefusal program rows breaks → IsRefusal program1 rows breaks1 → breaks ≡ breaks1
