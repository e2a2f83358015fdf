-- What is due for `check`, by the steps that came before.
use Rattle.std.proofs.Common.{◌≡◌, ℕ, List, ap, refl, subst, sym}
use Rattle.std.specs.Prelude.{⊤, Result, Ok, Err, Some, None, IfSome, IsSomeAnd}
use Rattle.std.specs.declared.option.Option.{Option}
use Rattle.std.specs.List.{AllZip}
use Rattle.host_text.specs.declared.finding.Finding.{Finding}
use Rattle.je_base.specs.declared.span.NameId.{NameId}
use Rattle.je_core.specs.Core.{CoreProgram}
use Rattle.je_core.specs.declared.types.ClassId.{ClassId}
use Rattle.je_top.specs.Judgement.{HasFindings, IsAccepted}
use Rattle.je_top.specs.Judgement as verdict
use Rattle.je_top.specs.declared.refusal.Refusal.TheVariants as refusal
use Rattle.planned_faults.specs.Plan.{Plan, FailsNext}
use Rattle.taming_db.specs.Rows.{Row}
use Rattle.taming_db.specs.Taming.{Says}
use Rattle.je_top.specs.Due.{AsksFor, first_of, HasTamingFault, IsDueForCheck, IsJudged, is_judged, source_stops, taming_has_fault}
use Rattle.je_top.specs.Files.{Held, IsWhole}
use Rattle.je_top.specs.Outcome.{Outcome, accepted, not_built, outcome_view, refused}
use Rattle.je_top.specs.Stop.{ComesTo, Ends}
use Rattle.je_top.specs.declared.outcome.Outcome as memory
use Rattle.je_top.specs.declared.reading.Stop.{Stop}
use Rattle.je_top.specs.declared.reading.Stop.TheVariants as stop
use Rattle.je_top.specs.Reading.{StopsAmong}

pub due_for_fault : (held : Option Held) (taming text text1 : List ℕ) (sources : List (List ℕ)) (o : Outcome) → IsWhole held taming text → text1 ≡ text →
    HasTamingFault text1 o → IsDueForCheck held taming sources o
due_for_fault held taming text text1 sources o whole same fault = taming_has_fault whole (subst (λ t. HasTamingFault t o) same fault)

pub due_for_source : (held held1 : Option Held) (taming text text1 : List ℕ) (sources : List (List ℕ)) (rows : List Row) (o : Outcome) → IsWhole held taming text →
    text1 ≡ text → Says text1 (Ok rows) → held1 ≡ held → StopsAmong held1 sources o → IsDueForCheck held taming sources o
due_for_source held held1 taming text text1 sources rows o whole same says there stops =
    source_stops whole (subst (λ t. Says t (Ok rows)) same says) (subst (λ h. StopsAmong h sources o) there stops)

pub due_for_verdict : (held : Option Held) (taming text : List ℕ) (sources files : List (List ℕ)) (rows : List Row) (o : Outcome) → IsWhole held taming text →
    Says text (Ok rows) → AllZip (IsWhole held) sources files → IsJudged sources files rows o → IsDueForCheck held taming sources o
due_for_verdict held taming text sources files rows o whole says all judged = is_judged whole says all judged

-- A command that ended early comes to what it ended with.
ends_with : (P Q : Outcome → Type 0) → ((o : Outcome) → P o → Q o) → (s : Stop) → Ends P s → Ends Q s
ends_with P Q f stop.Memory h = tt
ends_with P Q f (stop.Ends o) h = f (outcome_view o) h

pub comes_to_end : (P Q : Outcome → Type 0) (r : Result memory.Outcome Stop) (s : Stop) → ((o : Outcome) → P o → Q o) → r ≡ Err s → Ends P s → ComesTo Q r
comes_to_end P Q r s f is h = subst (ComesTo Q) (sym is) (ends_with P Q f s h)

-- ---- the verdict

pub is_accepted : (sources files names : List (List ℕ)) (program : CoreProgram) (rows : List Row) → IsAccepted files names program rows →
    IsJudged sources files rows accepted
is_accepted sources files names program rows a = record { verdict = verdict.accepted; judged = verdict.accepts a; is = refl }

pub is_refused : (sources files : List (List ℕ)) (rows : List Row) (found : List Finding) → HasFindings files rows found →
    IsJudged sources files rows (refused sources found)
is_refused sources files rows found h = record { verdict = verdict.refused found; judged = verdict.refuses h; is = refl }

pub is_misfit : (sources files : List (List ℕ)) (rows : List Row) (class : ClassId) (name : NameId) (first : List ℕ) → first ≡ first_of sources →
    verdict.IsRefused files rows (refusal.Misfit class name) → IsJudged sources files rows (not_built first)
is_misfit sources files rows class name first is h = record { verdict = verdict.misfit; judged = verdict.does_not_fit h; is = ap not_built is }

-- A first read that fails, of the file that is read first.
pub fails_first : (plan : Option Plan) (held : Option Held) (first : Option (List ℕ)) (name : List ℕ) (Q : Type 0) → first ≡ Some name →
    IfSome plan (λ p. FailsNext p → IfSome held (λ told. IfSome (told name) (λ bytes. Q))) →
    IfSome plan (λ p. IfSome held (λ told. FailsNext p → AsksFor first told (λ bytes. ⊤) → Q))
fails_first None held first name Q is h = tt
fails_first (Some p) None first name Q is h = tt
fails_first (Some p) (Some told) first name Q is h = λ next asks.
    by_file (told name) (h next) (subst (λ f. AsksFor f told (λ bytes. ⊤)) is asks)
  where
    by_file : (file : Option (List ℕ)) → IfSome file (λ bytes. Q) → IsSomeAnd file (λ bytes. ⊤) → Q
    by_file None k there = absurd there
    by_file (Some bytes) k there = k

pub ruleset dues = (due_for_fault, due_for_source, due_for_verdict)
