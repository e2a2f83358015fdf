use Rattle.je_types.specs.Views.{program_of}
use Rattle.source_units.specs.Files.{bytes_of}
use Rattle.taming_db.specs.View.{rows}
use Rattle.je_top.proofs.Judged.{by_keeping}
use Rattle.je_top.proofs.judging.judge.Goals as goal

pub returns-in-Err-clause-err : goal.returns-in-Err-clause-err
returns-in-Err-clause-err c = c.before_rules.ensures (bytes_of c.args.files.now) (rows c.args.taming) c.in-Err.ensures.err

pub returns-in-Ok-verify-clause-ok : goal.returns-in-Ok-verify-clause-ok
returns-in-Ok-verify-clause-ok c =
    rw c.in-Ok-verify.ensures.program
    (by_keeping (bytes_of c.args.files.now) c.in-Ok.names (program_of c.in-Ok.typed) (rows c.args.taming) c.in-Ok.ensures.ok c.in-Ok.ensures.fits
    c.in-Ok-verify.ensures.accepted)

pub returns-in-Err-verify-clause-err : goal.returns-in-Err-verify-clause-err
returns-in-Err-verify-clause-err c =
    c.of_rules.ensures (bytes_of c.args.files.now) c.in-Ok.names (program_of c.in-Ok.typed) (rows c.args.taming) c.in-Ok.ensures.ok c.in-Ok.ensures.fits
    c.in-Err-verify.ensures.refused
