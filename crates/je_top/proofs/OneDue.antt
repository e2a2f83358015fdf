-- Over files that tell, one outcome is due.
use Rattle.std.proofs.Common.{◌≡◌, ◌<◌, ◌≤◌, ◌⊎◌, ℕ, List, [], ◌∷◌, length, arith, refl, sym, ap, subst, ◌∙◌, inl, inr}
use Rattle.std.specs.Prelude.{Some, None, Ok, Err, IsSomeAnd}
use Rattle.std.specs.declared.option.Option.{Option}
use Rattle.std.specs.List.{AllZip}
use Rattle.taming_db.specs.declared.fault.TamingRule.{TamingRule}
use Rattle.taming_db.specs.Rows.{Row}
use Rattle.taming_db.specs.Taming.{Says}
use Rattle.taming_db.proofs.OneSaying.{says_one}
use Rattle.host_text.specs.declared.finding.Finding.{Finding}
use Rattle.je_core.specs.Core.{CoreProgram}
use Rattle.je_top.specs.Judgement.{IsAccepted, Judged}
use Rattle.least_taming.specs.Least.{least_text}
use Rattle.je_top.specs.Judgement as verdict
use Rattle.je_top.proofs.OneVerdict.{accepted_is_one, verdict_is_one}
use Rattle.je_top.specs.Due.{HasTamingFault, IsDue, IsDueForCheck, IsDueForRun, IsJudged, OneOutcomeIsDue, of_verdict}
use Rattle.je_top.specs.Due as due
use Rattle.je_top.specs.Files.{Held, IsTooLong, IsWhole, file_limit}
use Rattle.je_top.specs.Outcome.{Outcome, failed, missing, refused, taming_refused, too_long}
use Rattle.je_top.specs.Reading.{IsFailed, Stops, StopsAmong}
use Rattle.je_top.specs.Runs.{ComesUnder, RunsTo, of_program}
use Rattle.je_top.specs.Runs as of_run
use Rattle.je_top.specs.Words.{check, run}

-- ---- one file

whole_once : (files : Held) (name a b : List ℕ) → IsWhole (Some files) name a → IsWhole (Some files) name b → a ≡ b
whole_once files name a b h k =
    let left : files name ≡ Some a = h.told in
    let right : files name ≡ Some b = k.told in
    cc

-- which files stop the reading, but for those whose reading failed
abbrev IsKind : Held → List ℕ → Outcome → Type 0
IsKind files name o = ((files name ≡ None) × (o ≡ missing name)) ⊎ (IsSomeAnd (files name) IsTooLong × (o ≡ too_long name))

kind_of : (files : Held) (name : List ℕ) (o : Outcome) → ¬ IsFailed o → Stops (Some files) name o → IsKind files name o
kind_of files name (missing n) calm s = inl (s.0, ap missing s.1)
kind_of files name (too_long n) calm s = inr (s.0, ap too_long s.1)
kind_of files name (failed n) calm s = absurd (calm tt)
kind_of files name _ calm s = absurd s

none_or_long : (file : Option (List ℕ)) → file ≡ None → ¬ IsSomeAnd file IsTooLong
none_or_long file none long = subst (λ x. IsSomeAnd x IsTooLong) none long

pub long_is : (file : Option (List ℕ)) (bytes : List ℕ) → file ≡ Some bytes → IsSomeAnd file IsTooLong → IsTooLong bytes
long_is file bytes is long = subst (λ x. IsSomeAnd x IsTooLong) is long

kinds_alike : (files : Held) (name : List ℕ) (o p : Outcome) → IsKind files name o → IsKind files name p → o ≡ p
kinds_alike files name o p (inl h) (inl k) = h.1 ∙ sym k.1
kinds_alike files name o p (inl h) (inr k) = absurd (none_or_long (files name) h.0 k.0)
kinds_alike files name o p (inr h) (inl k) = absurd (none_or_long (files name) k.0 h.0)
kinds_alike files name o p (inr h) (inr k) = h.1 ∙ sym k.1

stops_alike : (files : Held) (name : List ℕ) (o p : Outcome) → ¬ IsFailed o → ¬ IsFailed p → Stops (Some files) name o → Stops (Some files) name p →
    o ≡ p
stops_alike files name o p calm calm1 s t = kinds_alike files name o p (kind_of files name o calm s) (kind_of files name p calm1 t)

whole_or_kind : (files : Held) (name bytes : List ℕ) (o : Outcome) → IsWhole (Some files) name bytes → ¬ IsKind files name o
whole_or_kind files name bytes o whole (inl h) =
    let told : files name ≡ Some bytes = whole.told in
    let none : files name ≡ None = h.0 in
    let no : None ≡ Some bytes = sym none ∙ told in
    absurd cc
whole_or_kind files name bytes o whole (inr h) =
    let long : file_limit < length bytes = long_is (files name) bytes whole.told h.0 in
    let within : length bytes ≤ file_limit = whole.within in
    absurd (omega arith)

whole_or_stops : (files : Held) (name bytes : List ℕ) (o : Outcome) → ¬ IsFailed o → IsWhole (Some files) name bytes → ¬ Stops (Some files) name o
whole_or_stops files name bytes o calm whole s = whole_or_kind files name bytes o whole (kind_of files name o calm s)

-- ---- several files

all_once : (files : Held) (names xs ys : List (List ℕ)) → AllZip (IsWhole (Some files)) names xs → AllZip (IsWhole (Some files)) names ys → xs ≡ ys
all_once files [] [] [] h k = refl
all_once files [] (a ∷ xs) ys h k = absurd h
all_once files [] [] (b ∷ ys) h k = absurd k
all_once files (n ∷ ns) [] ys h k = absurd h
all_once files (n ∷ ns) (a ∷ xs) [] h k = absurd k
all_once files (n ∷ ns) (a ∷ xs) (b ∷ ys) h k =
    ap (λ x. x ∷ xs) (whole_once files n a b h.0 k.0) ∙ ap (λ zs. b ∷ zs) (all_once files ns xs ys h.1 k.1)

among_alike : (files : Held) (names : List (List ℕ)) (o p : Outcome) → ¬ IsFailed o → ¬ IsFailed p → StopsAmong (Some files) names o →
    StopsAmong (Some files) names p → o ≡ p
among_alike files [] o p calm calm1 s t = absurd s
among_alike files (n ∷ ns) o p calm calm1 (inl s) (inl t) = stops_alike files n o p calm calm1 s t
among_alike files (n ∷ ns) o p calm calm1 (inl s) (inr t) = absurd (whole_or_stops files n t.0 o calm t.1 s)
among_alike files (n ∷ ns) o p calm calm1 (inr s) (inl t) = absurd (whole_or_stops files n s.0 p calm1 s.1 t)
among_alike files (n ∷ ns) o p calm calm1 (inr s) (inr t) = among_alike files ns o p calm calm1 s.2 t.2

all_or_among : (files : Held) (names all : List (List ℕ)) (o : Outcome) → ¬ IsFailed o → AllZip (IsWhole (Some files)) names all →
    ¬ StopsAmong (Some files) names o
all_or_among files [] all o calm h s = s
all_or_among files (n ∷ ns) [] o calm h s = h
all_or_among files (n ∷ ns) (a ∷ xs) o calm h (inl s) = whole_or_stops files n a o calm h.0 s
all_or_among files (n ∷ ns) (a ∷ xs) o calm h (inr s) = all_or_among files ns xs o calm h.1 s.2

-- ---- the commands

rows_once : (text text1 : List ℕ) (rows rows1 : List Row) → text ≡ text1 → Says text (Ok rows) → Says text1 (Ok rows1) → rows ≡ rows1
rows_once text text1 rows rows1 same says says1 =
    let e : Ok rows ≡ Ok rows1 = says_one text1 (Ok rows) (Ok rows1) (subst (λ t. Says t (Ok rows)) same says) says1 in
    cc

-- what is found in a file, that it doesn't fit, or that it is accepted
same_findings : (files : List (List ℕ)) (rows : List Row) (x y : List Finding) → Judged files rows (verdict.refused x) → Judged files rows (verdict.refused y) → x ≡ y
same_findings files rows x y h k =
    let e : verdict.refused x ≡ verdict.refused y = verdict_is_one files rows (verdict.refused x) (verdict.refused y) h k in
    cc

found_or_misfit : (files : List (List ℕ)) (rows : List Row) (x : List Finding) → Judged files rows (verdict.refused x) → ¬ Judged files rows verdict.misfit
found_or_misfit files rows x h k =
    let e : verdict.refused x ≡ verdict.misfit = verdict_is_one files rows (verdict.refused x) verdict.misfit h k in
    absurd cc

found_or_accepted : (files names : List (List ℕ)) (program : CoreProgram) (rows : List Row) (x : List Finding) → Judged files rows (verdict.refused x) →
    ¬ IsAccepted files names program rows
found_or_accepted files names program rows x h k =
    let e : verdict.refused x ≡ verdict.accepted = verdict_is_one files rows (verdict.refused x) verdict.accepted h (verdict.accepts k) in
    absurd cc

misfit_or_accepted : (files names : List (List ℕ)) (program : CoreProgram) (rows : List Row) → Judged files rows verdict.misfit →
    ¬ IsAccepted files names program rows
misfit_or_accepted files names program rows h k =
    let e : verdict.misfit ≡ verdict.accepted = verdict_is_one files rows verdict.misfit verdict.accepted h (verdict.accepts k) in
    absurd cc

same_program : (file : List ℕ) (files names names1 : List (List ℕ)) (program program1 : CoreProgram) (rows : List Row) → IsAccepted files names program rows →
    IsAccepted files names1 program1 rows → of_program file names program ≡ of_program file names1 program1
same_program file files names names1 program program1 rows h k =
    let one = accepted_is_one files names names1 program program1 rows h k in
    ap (λ ns. of_program file ns program) one.0 ∙ ap (of_program file names1) one.1

under_alike : (file bytes : List ℕ) (rows : List Row) (o p : Outcome) → ComesUnder file bytes rows o → ComesUnder file bytes rows p → o ≡ p
under_alike file bytes rows o p (of_run.refuses {found = x} h is) (of_run.refuses {found = y} k is1) =
    is ∙ ap (refused (file ∷ [])) (same_findings (bytes ∷ []) rows x y h k) ∙ sym is1
under_alike file bytes rows o p (of_run.refuses {found = x} h is) (of_run.does_not_fit k is1) = absurd (found_or_misfit (bytes ∷ []) rows x h k)
under_alike file bytes rows o p (of_run.refuses {found = x} h is) (of_run.runs {names = ns} {program = q} k is1) =
    absurd (found_or_accepted (bytes ∷ []) ns q rows x h k)
under_alike file bytes rows o p (of_run.does_not_fit h is) (of_run.refuses {found = y} k is1) = absurd (found_or_misfit (bytes ∷ []) rows y k h)
under_alike file bytes rows o p (of_run.does_not_fit h is) (of_run.does_not_fit k is1) = is ∙ sym is1
under_alike file bytes rows o p (of_run.does_not_fit h is) (of_run.runs {names = ns} {program = q} k is1) = absurd (misfit_or_accepted (bytes ∷ []) ns q rows h k)
under_alike file bytes rows o p (of_run.runs {names = ns} {program = q} h is) (of_run.refuses {found = y} k is1) =
    absurd (found_or_accepted (bytes ∷ []) ns q rows y k h)
under_alike file bytes rows o p (of_run.runs {names = ns} {program = q} h is) (of_run.does_not_fit k is1) = absurd (misfit_or_accepted (bytes ∷ []) ns q rows k h)
under_alike file bytes rows o p (of_run.runs {names = ns} {program = q} h is) (of_run.runs {names = ns1} {program = q1} k is1) =
    is ∙ same_program file (bytes ∷ []) ns ns1 q q1 rows h k ∙ sym is1

same_run : (file bytes bytes1 : List ℕ) (o p : Outcome) → bytes ≡ bytes1 → RunsTo file bytes o → RunsTo file bytes1 p → o ≡ p
same_run file bytes bytes1 o p same h k =
    let there : ComesUnder file bytes1 h.rows o = subst (λ b. ComesUnder file b h.rows o) same h.comes in
    let rows : h.rows ≡ k.rows = rows_once least_text least_text h.rows k.rows refl h.says k.says in
    under_alike file bytes1 k.rows o p (subst (λ r. ComesUnder file bytes1 r o) rows there) k.comes

runs_alike : (files : Held) (name : List ℕ) (o p : Outcome) → ¬ IsFailed o → ¬ IsFailed p → IsDueForRun (Some files) name o → IsDueForRun (Some files) name p →
    o ≡ p
runs_alike files name o p calm calm1 (due.stops s) (due.stops t) = stops_alike files name o p calm calm1 s t
runs_alike files name o p calm calm1 (due.stops s) (due.runs_to {bytes = bytes} whole r) = absurd (whole_or_stops files name bytes o calm whole s)
runs_alike files name o p calm calm1 (due.runs_to {bytes = bytes} whole r) (due.stops t) = absurd (whole_or_stops files name bytes p calm1 whole t)
runs_alike files name o p calm calm1 (due.runs_to {bytes = bytes} whole r) (due.runs_to {bytes = bytes1} whole1 r1) =
    same_run name bytes bytes1 o p (whole_once files name bytes bytes1 whole whole1) r r1

fault_kind : (text : List ℕ) (o : Outcome) → HasTamingFault text o → (f : ℕ × TamingRule) × Says text (Err f) × (o ≡ taming_refused f.0 f.1)
fault_kind text (taming_refused table rule) h = ((table, rule), h, refl)
fault_kind text _ h = absurd h

faults_alike : (text text1 : List ℕ) (o p : Outcome) → text ≡ text1 → HasTamingFault text o → HasTamingFault text1 p → o ≡ p
faults_alike text text1 o p same h k =
    let f = fault_kind text o h in
    let g = fault_kind text1 p k in
    let e : Err f.0 ≡ Err g.0 = says_one text1 (Err f.0) (Err g.0) (subst (λ t. Says t (Err f.0)) same f.1) g.1 in
    let one : f.0 ≡ g.0 = cc in
    f.2 ∙ ap (λ (x : ℕ × TamingRule). taming_refused x.0 x.1) one ∙ sym g.2

rows_or_fault : (text text1 : List ℕ) (rows : List Row) (o : Outcome) → text ≡ text1 → Says text (Ok rows) → ¬ HasTamingFault text1 o
rows_or_fault text text1 rows o same says h =
    let f = fault_kind text1 o h in
    let no : Ok rows ≡ Err f.0 = says_one text1 (Ok rows) (Err f.0) (subst (λ t. Says t (Ok rows)) same says) f.1 in
    absurd cc

judged_alike : (sources files files1 : List (List ℕ)) (rows rows1 : List Row) (o p : Outcome) → files ≡ files1 → rows ≡ rows1 → IsJudged sources files rows o →
    IsJudged sources files1 rows1 p → o ≡ p
judged_alike sources files files1 rows rows1 o p same same1 h k =
    let there : Judged files1 rows1 h.verdict = subst (λ r. Judged files1 r h.verdict) same1 (subst (λ f. Judged f rows h.verdict) same h.judged) in
    h.is ∙ ap (of_verdict sources) (verdict_is_one files1 rows1 h.verdict k.verdict there k.judged) ∙ sym k.is

checks_alike : (files : Held) (taming : List ℕ) (sources : List (List ℕ)) (o p : Outcome) → ¬ IsFailed o → ¬ IsFailed p →
    IsDueForCheck (Some files) taming sources o → IsDueForCheck (Some files) taming sources p → o ≡ p
checks_alike files taming sources o p c d (due.taming_stops s) (due.taming_stops t) = stops_alike files taming o p c d s t
checks_alike files taming sources o p c d (due.taming_stops s) (due.taming_has_fault {text = text} whole f) = absurd (whole_or_stops files taming text o c whole s)
checks_alike files taming sources o p c d (due.taming_stops s) (due.source_stops {text = text} whole r t) = absurd (whole_or_stops files taming text o c whole s)
checks_alike files taming sources o p c d (due.taming_stops s) (due.is_judged {text = text} whole r all j) = absurd (whole_or_stops files taming text o c whole s)
checks_alike files taming sources o p c d (due.taming_has_fault {text = text} whole f) (due.taming_stops t) = absurd (whole_or_stops files taming text p d whole t)
checks_alike files taming sources o p c d (due.source_stops {text = text} whole r s) (due.taming_stops t) = absurd (whole_or_stops files taming text p d whole t)
checks_alike files taming sources o p c d (due.is_judged {text = text} whole r all j) (due.taming_stops t) = absurd (whole_or_stops files taming text p d whole t)
checks_alike files taming sources o p c d (due.taming_has_fault {text = text} whole f) (due.taming_has_fault {text = text1} whole1 g) =
    faults_alike text text1 o p (whole_once files taming text text1 whole whole1) f g
checks_alike files taming sources o p c d (due.taming_has_fault {text = text} whole f) (due.source_stops {text = text1} {rows = rows} whole1 r t) =
    absurd (rows_or_fault text1 text rows o (whole_once files taming text1 text whole1 whole) r f)
checks_alike files taming sources o p c d (due.taming_has_fault {text = text} whole f) (due.is_judged {text = text1} {rows = rows} whole1 r all j) =
    absurd (rows_or_fault text1 text rows o (whole_once files taming text1 text whole1 whole) r f)
checks_alike files taming sources o p c d (due.source_stops {text = text} {rows = rows} whole r s) (due.taming_has_fault {text = text1} whole1 g) =
    absurd (rows_or_fault text text1 rows p (whole_once files taming text text1 whole whole1) r g)
checks_alike files taming sources o p c d (due.is_judged {text = text} {rows = rows} whole r all j) (due.taming_has_fault {text = text1} whole1 g) =
    absurd (rows_or_fault text text1 rows p (whole_once files taming text text1 whole whole1) r g)
checks_alike files taming sources o p c d (due.source_stops whole r s) (due.source_stops whole1 r1 t) = among_alike files sources o p c d s t
checks_alike files taming sources o p c d (due.source_stops whole r s) (due.is_judged {files = all} whole1 r1 every j) =
    absurd (all_or_among files sources all o c every s)
checks_alike files taming sources o p c d (due.is_judged {files = all} whole r every j) (due.source_stops whole1 r1 t) =
    absurd (all_or_among files sources all p d every t)
checks_alike files taming sources o p c d (due.is_judged {text = text} {rows = rows} {files = all} whole r every j)
    (due.is_judged {text = text1} {rows = rows1} {files = all1} whole1 r1 every1 k) =
    judged_alike sources all all1 rows rows1 o p (all_once files sources all all1 every every1)
    (rows_once text text1 rows rows1 (whole_once files taming text text1 whole whole1) r r1) j k

pub one_outcome : OneOutcomeIsDue
one_outcome files None o p c d h k = h ∙ sym k
one_outcome files (Some (run name)) o p c d h k = runs_alike files name o p c d h k
one_outcome files (Some (check taming sources)) o p c d h k = checks_alike files taming sources o p c d h k
