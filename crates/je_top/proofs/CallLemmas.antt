-- What a call answers, by what is due.
use Rattle.std.proofs.Common.{◌≡◌, ◌≢◌, ◌∷◌, [], ◌<◌, ◌≤◌, ◌⊎◌, ℕ, List, length, arith, refl, sym, ap, subst, ◌∙◌, inl, inr}
use Rattle.std.specs.Prelude.{◌↔◌, Some, None, IfSome, IsSomeAnd, option_and_then}
use Rattle.std.specs.declared.option.Option.{Option}
use Rattle.taming_db.specs.Rows.{Row}
use Rattle.class_names.specs.BinaryNames.{binary_name}
use Rattle.je_core.specs.Core.{CoreProgram}
use Rattle.je_core.specs.declared.types.ClassId.{ClassId}
use Rattle.je_core.specs.declared.value.Value.TheVariants.{Int}
use Rattle.je_interp.specs.declared.running.RunEnd.{RunEnd}
use Rattle.je_interp.specs.declared.running.RunEnd.TheVariants.{Done, LoadSpentIn, LoadThrownIn, Spent, Thrown}
use Rattle.je_top.specs.Judgement.{Verdict}
use Rattle.je_top.specs.Judgement as verdict
use Rattle.main_runs.specs.Mains.{main_of, main_run, run_of}
use Rattle.je_top.specs.declared.status.Status.{Status}
use Rattle.je_top.specs.declared.status.Status.TheVariants as status
use Rattle.je_top.specs.Calls.{UnlessCut, UnlessFailed}
use Rattle.je_top.specs.Due.{AsksFor, CanRun, HasTamingFault, IsDue, LacksMain, of_verdict, run_file}
use Rattle.je_top.specs.Due as due
use Rattle.je_top.specs.Files.{Held, file_limit}
use Rattle.je_top.specs.Outcome.{Outcome, failed, missing, not_built, status_of, taming_refused, too_long}
use Rattle.je_top.specs.Reading.{IsCaused, IsFailed, Stops, StopsAmong}
use Rattle.je_top.specs.Runs.{ComesUnder, IsEndOfMain, IsRunnable, of_end, of_program}
use Rattle.je_top.specs.Runs as of_run
use Rattle.je_top.specs.Sink.{grown}
use Rattle.je_top.specs.Texts.{text_of}
use Rattle.je_top.specs.Words.{Command, check, run}
use Rattle.je_top.proofs.OneDue.{one_outcome}

-- ---- true unless

unless_cut : (s : Status) (P Q : Type 0) → (P → Q) → UnlessCut s P → UnlessCut s Q
unless_cut status.WriteFault P Q f h = tt
unless_cut status.Memory P Q f h = tt
unless_cut _ P Q f h = f h

unless_failed : (s : Status) (P Q : Type 0) → (s ≢ status.ReadFault → P → Q) → UnlessCut s P → UnlessFailed s Q
unless_failed status.ReadFault P Q f h = tt
unless_failed status.WriteFault P Q f h = tt
unless_failed status.Memory P Q f h = tt
unless_failed _ P Q f h = f (λ e. absurd cc) h

failed_or_memory : (s : Status) (Q : Type 0) → s ≢ status.ReadFault → s ≢ status.WriteFault → UnlessFailed s Q → Q ⊎ (s ≡ status.Memory)
failed_or_memory status.ReadFault Q r w h = absurd (r refl)
failed_or_memory status.WriteFault Q r w h = absurd (w refl)
failed_or_memory status.Memory Q r w h = inr refl
failed_or_memory _ Q r w h = inl h

-- ---- what is due

fails_alone : (o : Outcome) → IsFailed o → status_of o ≡ status.ReadFault
fails_alone (failed n) h = refl
fails_alone _ h = absurd h

no_usage_stop : (held : Option Held) (name : List ℕ) (o : Outcome) → Stops held name o → status_of o ≢ status.Usage
no_usage_stop held name (missing n) s e = absurd cc
no_usage_stop held name (too_long n) s e = absurd cc
no_usage_stop held name (failed n) s e = absurd cc
no_usage_stop held name _ s e = s

no_usage_among : (held : Option Held) (names : List (List ℕ)) (o : Outcome) → StopsAmong held names o → status_of o ≢ status.Usage
no_usage_among held [] o s e = s
no_usage_among held (n ∷ ns) o (inl s) e = no_usage_stop held n o s e
no_usage_among held (n ∷ ns) o (inr s) e = no_usage_among held ns o s.2 e

no_usage_end : (file : List ℕ) (named : ClassId → List ℕ) (end : Option RunEnd) → status_of (of_end file named end) ≢ status.Usage
no_usage_end file named (Some (Done (Some (Int value)))) e = absurd cc
no_usage_end file named (Some (Thrown exception)) e = absurd cc
no_usage_end file named (Some Spent) e = absurd cc
no_usage_end file named (Some (LoadThrownIn class)) e = absurd cc
no_usage_end file named (Some (LoadSpentIn class)) e = absurd cc
no_usage_end file named _ e = absurd cc

no_usage_under : (file bytes : List ℕ) (rows : List Row) (o : Outcome) → ComesUnder file bytes rows o → status_of o ≢ status.Usage
no_usage_under file bytes rows o (of_run.refuses h is) e =
    let no : status.Refused ≡ status.Usage = sym (ap status_of is) ∙ e in
    absurd cc
no_usage_under file bytes rows o (of_run.does_not_fit h is) e =
    let no : status.NotBuilt ≡ status.Usage = sym (ap status_of is) ∙ e in
    absurd cc
no_usage_under file bytes rows o (of_run.runs {names = names} {program = program} h is) e =
    no_usage_end file _ (main_run names program) (sym (ap status_of is) ∙ e)

no_usage_fault : (text : List ℕ) (o : Outcome) → HasTamingFault text o → status_of o ≢ status.Usage
no_usage_fault text (taming_refused table rule) h e = absurd cc
no_usage_fault text _ h e = h

no_usage_verdict : (sources : List (List ℕ)) (v : Verdict) → status_of (of_verdict sources v) ≢ status.Usage
no_usage_verdict sources verdict.accepted e = absurd cc
no_usage_verdict sources (verdict.refused f) e = absurd cc
no_usage_verdict sources verdict.misfit e = absurd cc

no_usage : (held : Option Held) (c : Command) (o : Outcome) → IsDue held (Some c) o → status_of o ≢ status.Usage
no_usage held (run file) o (due.stops s) e = no_usage_stop held file o s e
no_usage held (run file) o (due.runs_to {bytes = bytes} whole r) e = no_usage_under file bytes r.rows o r.comes e
no_usage held (check taming sources) o (due.taming_stops s) e = no_usage_stop held taming o s e
no_usage held (check taming sources) o (due.taming_has_fault {text = text} whole h) e = no_usage_fault text o h e
no_usage held (check taming sources) o (due.source_stops whole says s) e = no_usage_among held sources o s e
no_usage held (check taming sources) o (due.is_judged whole says all j) e = no_usage_verdict sources j.verdict (sym (ap status_of j.is) ∙ e)

usage_due : (held : Option Held) (c : Option Command) (o : Outcome) (s : Status) → IsDue held c o → s ≡ status_of o → (s ≡ status.Usage) ↔ (c ≡ None)
usage_due held None o s d is = ((λ e. refl), (λ e. is ∙ ap status_of d))
usage_due held (Some c) o s d is = ((λ e. absurd (no_usage held c o d (sym is ∙ e))), (λ e. absurd cc))

pub usage_is : (held : Option Held) (c : Option Command) (o : Outcome) (s : Status) → IsDue held c o → UnlessCut s (s ≡ status_of o) →
    UnlessCut s ((s ≡ status.Usage) ↔ (c ≡ None))
usage_is held c o s d h = unless_cut s (s ≡ status_of o) ((s ≡ status.Usage) ↔ (c ≡ None)) (usage_due held c o s d) h

-- over files that tell
abbrev Dues : Option Held → Option Command → Status → Type 0
Dues held c s = IfSome held (λ told. (p : Outcome) → IsDue (Some told) c p → ¬ IsFailed p → s ≡ status_of p)

due_told : (held : Option Held) (c : Option Command) (o : Outcome) (s : Status) → IsDue held c o → s ≢ status.ReadFault → s ≡ status_of o → Dues held c s
due_told None c o s d calm is = tt
due_told (Some told) c o s d calm is = λ p e no. is ∙ ap status_of (one_outcome told c o p (λ f. calm (is ∙ fails_alone o f)) no d e)

pub due_is : (held : Option Held) (c : Option Command) (o : Outcome) (s : Status) → IsDue held c o → UnlessCut s (s ≡ status_of o) → UnlessFailed s (Dues held c s)
due_is held c o s d h = unless_failed s (s ≡ status_of o) (Dues held c s) (due_told held c o s d) h

unless_both : (s : Status) (P Q : Type 0) → UnlessCut s P → UnlessCut s Q → UnlessCut s (P × Q)
unless_both status.WriteFault P Q h k = tt
unless_both status.Memory P Q h k = tt
unless_both _ P Q h k = (h, k)

-- the text of each outcome that is due
abbrev Tells : Option Held → Option Command → Option (List ℕ) → Option (List ℕ) → Type 0
Tells held c before after = IfSome held (λ told. (p : Outcome) → IsDue (Some told) c p → ¬ IsFailed p → after ≡ grown before (text_of p))

tells : (held : Option Held) (c : Option Command) (o : Outcome) (s : Status) (before after : Option (List ℕ)) → IsDue held c o → s ≢ status.ReadFault →
    (s ≡ status_of o) × (after ≡ grown before (text_of o)) → Tells held c before after
tells None c o s before after d calm is = tt
tells (Some told) c o s before after d calm is =
    λ p e no. is.1 ∙ ap (λ q. grown before (text_of q)) (one_outcome told c o p (λ f. calm (is.0 ∙ fails_alone o f)) no d e)

pub told_is : (held : Option Held) (c : Option Command) (o : Outcome) (s : Status) (before after : Option (List ℕ)) → IsDue held c o →
    UnlessCut s (s ≡ status_of o) → UnlessCut s (after ≡ grown before (text_of o)) → UnlessFailed s (Tells held c before after)
told_is held c o s before after d h k =
    unless_failed s ((s ≡ status_of o) × (after ≡ grown before (text_of o))) (Tells held c before after) (tells held c o s before after d)
    (unless_both s (s ≡ status_of o) (after ≡ grown before (text_of o)) h k)

-- ---- of `run`

-- What an accepted file comes to is due.
runnable_is : (told : Held) (file bytes : List ℕ) (names : List (List ℕ)) (program : CoreProgram) → told file ≡ Some bytes → length bytes ≤ file_limit →
    IsRunnable bytes names program → IsDue (Some told) (Some (run file)) (of_program file names program)
runnable_is told file bytes names program there within r =
    due.runs_to (record { within = within; told = there }) (record { rows = r.rows; says = r.says; comes = of_run.runs r.accepted refl })

calm_end : (file : List ℕ) (named : ClassId → List ℕ) (end : Option RunEnd) → ¬ IsFailed (of_end file named end)
calm_end file named (Some (Done (Some (Int value)))) h = h
calm_end file named (Some (Thrown exception)) h = h
calm_end file named (Some Spent) h = h
calm_end file named (Some (LoadThrownIn class)) h = h
calm_end file named (Some (LoadSpentIn class)) h = h
calm_end file named _ h = h

ends_well : (file : List ℕ) (named : ClassId → List ℕ) (end : Option RunEnd) → IsEndOfMain end → status_of (of_end file named end) ≡ status.Ok
ends_well file named (Some (Done (Some (Int value)))) h = refl
ends_well file named (Some (Thrown exception)) h = refl
ends_well file named (Some Spent) h = refl
ends_well file named _ h = absurd h

lacks_run : (names : List (List ℕ)) (program : CoreProgram) → main_of names program ≡ None → main_run names program ≡ None
lacks_run names program lacks = ap (option_and_then (run_of program)) lacks

-- a file that is held and of which this is true comes to an outcome of that status
abbrev Comes : (List ℕ → Type 0) → Status → Type 0
Comes P want = (told : Held) (file bytes : List ℕ) → told file ≡ Some bytes → P bytes → (o : Outcome) × IsDue (Some told) (Some (run file)) o × (¬ IsFailed o)
    × (status_of o ≡ want)

can_run : Comes CanRun status.Ok
can_run told file bytes there c = (
  of_program file c.names c.program,
  runnable_is told file bytes c.names c.program there c.within c.runnable,
  calm_end file _ (main_run c.names c.program),
  ends_well file _ (main_run c.names c.program) c.ends,
)

lacks_main : Comes LacksMain status.NotBuilt
lacks_main told file bytes there c =
    let none : of_program file c.names c.program ≡ not_built file = ap (of_end file (binary_name c.program c.names)) (lacks_run c.names c.program c.lacks) in (
      of_program file c.names c.program,
      runnable_is told file bytes c.names c.program there c.within c.runnable,
      calm_end file _ (main_run c.names c.program),
      ap status_of none,
    )

held_is : (P : List ℕ → Type 0) (file : Option (List ℕ)) → IsSomeAnd file P → (bytes : List ℕ) × (file ≡ Some bytes) × P bytes
held_is P None h = absurd h
held_is P (Some bytes) h = (bytes, refl, h)

abbrev Runs : Option Held → Option Command → (List ℕ → Type 0) → Status → Status → Type 0
Runs held c P want s = IfSome held (λ told. AsksFor (run_file c) told P → s ≡ want)

run_told : (held : Option Held) (c : Option Command) (s want : Status) (P : List ℕ → Type 0) → Comes P want → Dues held c s → Runs held c P want s
run_told None c s want P comes dues = tt
run_told (Some told) None s want P comes dues = λ h. absurd h
run_told (Some told) (Some (check taming sources)) s want P comes dues = λ h. absurd h
run_told (Some told) (Some (run file)) s want P comes dues = λ h.
    let there = held_is P (told file) h in
    let is = comes told file there.0 there.1 there.2 in
    dues is.0 is.1 is.2 ∙ is.3

unless_failed_more : (s : Status) (P Q : Type 0) → (P → Q) → UnlessFailed s P → UnlessFailed s Q
unless_failed_more status.ReadFault P Q f h = tt
unless_failed_more status.WriteFault P Q f h = tt
unless_failed_more status.Memory P Q f h = tt
unless_failed_more _ P Q f h = f h

pub runs_is : (held : Option Held) (c : Option Command) (o : Outcome) (s : Status) → IsDue held c o → UnlessCut s (s ≡ status_of o) →
    UnlessFailed s (Runs held c CanRun status.Ok s)
runs_is held c o s d h = unless_failed_more s (Dues held c s) (Runs held c CanRun status.Ok s) (run_told held c s status.Ok CanRun can_run) (due_is held c o s d h)

pub not_built_is : (held : Option Held) (c : Option Command) (o : Outcome) (s : Status) → IsDue held c o → UnlessCut s (s ≡ status_of o) →
    UnlessFailed s (Runs held c LacksMain status.NotBuilt s)
not_built_is held c o s d h =
    unless_failed_more s (Dues held c s) (Runs held c LacksMain status.NotBuilt s) (run_told held c s status.NotBuilt LacksMain lacks_main) (due_is held c o s d h)

-- ---- faults

pub grew_is : (held : Option Held) (grew : Type 0) (o : Outcome) (s : Status) → IfSome held (λ _. grew → IsFailed o) → UnlessCut s (s ≡ status_of o) →
    IfSome held (λ _. grew → UnlessCut s (s ≡ status.ReadFault))
grew_is None grew o s f h = tt
grew_is (Some told) grew o s f h = λ g. unless_cut s (s ≡ status_of o) (s ≡ status.ReadFault) (λ e. e ∙ fails_alone o (f g)) h

rise_of : (held : Option Held) (rose : Type 0) (last : List ℕ) (o : Outcome) → IsCaused held rose last o → status_of o ≡ status.ReadFault → rose
rise_of held rose last (failed n) caused e = caused.0
rise_of held rose last _ caused e = absurd cc

rises : (held : Option Held) (rose : Type 0) (last : List ℕ) (o : Outcome) (s : Status) → IsCaused held rose last o → UnlessCut s (s ≡ status_of o) →
    s ≡ status.ReadFault → rose
rises held rose last o s caused h e =
    let is : status.ReadFault ≡ status_of o = subst (λ t. UnlessCut t (t ≡ status_of o)) e h in
    rise_of held rose last o caused (sym is)

completes_told : (held : Option Held) (c : Option Command) (s : Status) (rose wrote : Type 0) → (s ≡ status.ReadFault → rose) → (s ≡ status.WriteFault → wrote) →
    UnlessFailed s (Dues held c s) → IfSome held (λ told. (p : Outcome) → IsDue (Some told) c p → ¬ IsFailed p → ¬ rose → ¬ wrote →
    (s ≡ status_of p) ⊎ (s ≡ status.Memory))
completes_told None c s rose wrote r w h = tt
completes_told (Some told) c s rose wrote r w h = λ p d calm no none.
    elim (failed_or_memory s (Dues (Some told) c s) (λ e. no (r e)) (λ e. none (w e)) h) [ inl q ↦ inl (q p d calm) | inr e ↦ inr e ]

pub completes_is : (held : Option Held) (c : Option Command) (o : Outcome) (s : Status) (rose wrote : Type 0) (last : List ℕ) → IsDue held c o →
    IsCaused held rose last o → UnlessCut s (s ≡ status_of o) → (s ≡ status.WriteFault → wrote) →
    IfSome held (λ told. (p : Outcome) → IsDue (Some told) c p → ¬ IsFailed p → ¬ rose → ¬ wrote → (s ≡ status_of p) ⊎ (s ≡ status.Memory))
completes_is held c o s rose wrote last d caused h w = completes_told held c s rose wrote (rises held rose last o s caused h) w (due_is held c o s d h)

run_completes : (held : Option Held) (c : Option Command) (s : Status) (rose wrote : Type 0) → (s ≡ status.ReadFault → rose) → (s ≡ status.WriteFault → wrote) →
    UnlessFailed s (Runs held c CanRun status.Ok s) → IfSome held (λ told. AsksFor (run_file c) told CanRun → ¬ rose → ¬ wrote → (s ≡ status.Ok) ⊎ (s ≡ status.Memory))
run_completes None c s rose wrote r w h = tt
run_completes (Some told) c s rose wrote r w h = λ asks no none.
    elim (failed_or_memory s (Runs (Some told) c CanRun status.Ok s) (λ e. no (r e)) (λ e. none (w e)) h) [ inl q ↦ inl (q asks) | inr e ↦ inr e ]

pub run_completes_is : (held : Option Held) (c : Option Command) (o : Outcome) (s : Status) (rose wrote : Type 0) (last : List ℕ) → IsDue held c o →
    IsCaused held rose last o → UnlessCut s (s ≡ status_of o) → (s ≡ status.WriteFault → wrote) →
    IfSome held (λ told. AsksFor (run_file c) told CanRun → ¬ rose → ¬ wrote → (s ≡ status.Ok) ⊎ (s ≡ status.Memory))
run_completes_is held c o s rose wrote last d caused h w =
    run_completes held c s rose wrote (rises held rose last o s caused h) w (runs_is held c o s d h)
