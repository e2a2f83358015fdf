-- A fault of the taming text is due, what stops the reading of the files, and the verdict.
use Rattle.std.proofs.Common.{rules, ◌≡◌, map, subst}
use Rattle.std.specs.Prelude.{Err, Ok, string_bytes}
use Rattle.std.specs.List.{AllZip}
use Rattle.source_units.specs.Files.{bytes_of}
use Rattle.taming_db.specs.Taming.{Says}
use Rattle.taming_db.specs.View.{rows}
use Rattle.je_top.specs.Due.{HasTamingFault, IsDueForCheck, IsJudged}
use Rattle.je_top.specs.Files.{IsWhole}
use Rattle.je_top.specs.Outcome.{outcome_view}
use Rattle.je_top.specs.Reading.{StopsAmong}
use Rattle.je_top.proofs.CheckLemmas.{comes_to_end, due_for_fault, due_for_source, due_for_verdict}
use Rattle.je_top.proofs.deciding.check.Goals as goal

pub returns-in_err-taming-clause-due : goal.returns-in_err-taming-clause-due
returns-in_err-taming-clause-due g c =
    let held = g.F.Files.held c.args.files.now in
    let sources = map string_bytes c.args.sources.now in
    let is : c.from_residual-in_err-taming.result ≡ Err c.in_err-taming.field-0.0 = search rules in
    comes_to_end (HasTamingFault c.deref.result.now) (IsDueForCheck held c.args.taming.now sources) c.from_residual-in_err-taming.result c.in_err-taming.field-0.0
    (λ o. due_for_fault held c.args.taming.now c.in_ok-text.text.items c.deref.result.now sources o c.in_ok-text.ensures.whole c.deref.ensures.value)
    is c.in_err-taming.ensures.fault

pub returns-in_err-read-clause-due : goal.returns-in_err-read-clause-due
returns-in_err-read-clause-due g c =
    let held = g.F.Files.held c.args.files.now in
    let sources = map string_bytes c.args.sources.now in
    let is : c.from_residual-in_err-read.result ≡ Err c.in_err-read.field-0.0 = search rules in
    comes_to_end (StopsAmong (g.F.Files.held c.read_whole.new.files) sources) (IsDueForCheck held c.args.taming.now sources) c.from_residual-in_err-read.result
    c.in_err-read.field-0.0
    (λ o. due_for_source held (g.F.Files.held c.read_whole.new.files) c.args.taming.now c.in_ok-text.text.items c.deref.result.now sources _ o
    c.in_ok-text.ensures.whole c.deref.ensures.value c.in_ok-taming.ensures.says c.read_whole.ensures.held)
    is c.in_err-read.ensures.stops

pub returns-clause-due : goal.returns-clause-due
returns-clause-due g c =
    let held = g.F.Files.held c.args.files.now in
    let sources = map string_bytes c.args.sources.now in
    let files = bytes_of c.in_ok-read.read.items in
    let said = rows c.in_ok-taming.taming in
    let o = outcome_view c.in_ok-judged.field-0 in
    due_for_verdict held c.args.taming.now c.in_ok-text.text.items sources files said o c.in_ok-text.ensures.whole
    (subst (λ text. Says text (Ok said)) c.deref.ensures.value c.in_ok-taming.ensures.says)
    (subst (λ h. AllZip (IsWhole h) sources files) c.read_whole.ensures.held c.in_ok-read.ensures.whole)
    (subst (λ read. IsJudged sources (bytes_of read) said o) c.deref-2.ensures.value c.in_ok-judged.ensures)
