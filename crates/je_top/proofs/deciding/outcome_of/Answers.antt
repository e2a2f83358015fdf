-- The first read of `run` is that of its file, and of `check` that of the taming text.
use Rattle.std.proofs.Common.{◌≡◌, map, sym, ap}
use Rattle.std.specs.Prelude.{Some, string_bytes}
use Rattle.je_top.specs.Due.{asked, first_file}
use Rattle.je_top.specs.Words.{check, run}
use Rattle.je_top.proofs.CheckLemmas.{fails_first}
use Rattle.je_top.proofs.deciding.outcome_of.Goals as goal

pub returns-in-Some-Run-clause-fails : goal.returns-in-Some-Run-clause-fails
returns-in-Some-Run-clause-fails g c =
    let asks : Some (run (string_bytes c.in-Some-Run.file.now)) ≡ asked c.args.words.now = (rw c.in-Some-Run.field-0-is at c.in-Some-Run.ensures.command) in
    fails_first _ _ (first_file (asked c.args.words.now)) (string_bytes c.in-Some-Run.file.now) _ (sym (ap first_file asks)) c.run.ensures.fails

pub returns-in-Some-Check-clause-fails : goal.returns-in-Some-Check-clause-fails
returns-in-Some-Check-clause-fails g c =
    let asks : Some (check c.in-Some-Check.taming.now (map string_bytes c.in-Some-Check.sources.now)) ≡ asked c.args.words.now =
    (rw c.in-Some-Check.field-0-is at c.in-Some-Check.ensures.command) in
    fails_first _ _ (first_file (asked c.args.words.now)) c.in-Some-Check.taming.now _ (sym (ap first_file asks)) c.check.ensures.fails
