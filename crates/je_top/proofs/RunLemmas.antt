-- What `run FILE` comes to, by the verdict on the file.
use Rattle.std.proofs.Common.{◌≡◌, ℕ, List, [], ◌∷◌, ◌∙◌, ap, refl, subst}
use Rattle.std.specs.Prelude.{Ok}
use Rattle.std.specs.declared.option.Option.{Option}
use Rattle.host_text.specs.declared.finding.Finding.{Finding}
use Rattle.je_base.specs.declared.span.NameId.{NameId}
use Rattle.je_core.specs.Core.{CoreProgram}
use Rattle.je_core.specs.declared.types.ClassId.{ClassId}
use Rattle.je_top.specs.Judgement.{HasFindings, IsAccepted}
use Rattle.je_top.specs.Judgement as verdict
use Rattle.je_top.specs.declared.refusal.Refusal.TheVariants as refusal
use Rattle.least_taming.specs.Least.{least_text}
use Rattle.taming_db.specs.Rows.{Row}
use Rattle.taming_db.specs.Taming.{Says}
use Rattle.je_top.specs.Due.{IsDueForRun, runs_to}
use Rattle.je_top.specs.Files.{Held, IsWhole}
use Rattle.je_top.specs.Outcome.{Outcome, not_built, refused}
use Rattle.je_top.specs.Runs.{RunsTo, does_not_fit, of_program, refuses, runs}

pub ran_refused : (file bytes : List ℕ) (rows : List Row) (found : List Finding) → Says least_text (Ok rows) → HasFindings (bytes ∷ []) rows found →
    RunsTo file bytes (refused (file ∷ []) found)
ran_refused file bytes rows found says h = record { rows = rows; says = says; comes = refuses (verdict.refuses h) refl }

pub ran_misfit : (file bytes : List ℕ) (rows : List Row) (class : ClassId) (name : NameId) → Says least_text (Ok rows) →
    verdict.IsRefused (bytes ∷ []) rows (refusal.Misfit class name) → RunsTo file bytes (not_built file)
ran_misfit file bytes rows class name says h = record { rows = rows; says = says; comes = does_not_fit (verdict.does_not_fit h) refl }

pub ran_accepted : (file name bytes : List ℕ) (files names names1 : List (List ℕ)) (program program1 : CoreProgram) (rows : List Row) (o : Outcome) →
    Says least_text (Ok rows) → IsAccepted files names program rows → files ≡ bytes ∷ [] → name ≡ file → names1 ≡ names → program1 ≡ program →
    o ≡ of_program name names1 program1 → RunsTo file bytes o
ran_accepted file name bytes files names names1 program program1 rows o says h same named listed typed is =
    let accepted : IsAccepted (bytes ∷ []) names program rows = subst (λ fs. IsAccepted fs names program rows) same h in
    let due : o ≡ of_program file names program =
    is ∙ ap (λ n. of_program n names1 program1) named ∙ ap (λ ns. of_program file ns program1) listed ∙ ap (of_program file names) typed in
    record { rows = rows; says = says; comes = runs accepted due }

pub run_is_due : (held : Option Held) (name file bytes : List ℕ) (o : Outcome) → IsWhole held name bytes → name ≡ file → RunsTo file bytes o →
    IsDueForRun held file o
run_is_due held name file bytes o whole same r = runs_to (subst (λ n. IsWhole held n bytes) same whole) r

pub ruleset comings = (ran_refused, ran_misfit)
