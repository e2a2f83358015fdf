use Rattle.std.proofs.Common.{rules, ◌≡◌, None}
use Rattle.std.specs.Str.{IsUtf8}
use Rattle.toml.specs.Parse.{parse_document}
use Rattle.taming_db.specs.Taming.{no_toml}
use Rattle.taming_db.proofs.Reading.{ok_says, err_says}
use Rattle.taming_db.proofs.taming.Taming.read.Goals as goal

pub returns-in-Ok-clause-ok : goal.returns-in-Ok-clause-ok
returns-in-Ok-clause-ok c = ok_says c.in-Ok.ensures.ok.0 c.in-Ok.ensures.ok.1 c.read_document.result c.read_document.ensures.ok

pub returns-in-Ok-clause-err : goal.returns-in-Ok-clause-err
returns-in-Ok-clause-err c = err_says c.in-Ok.ensures.ok.0 c.in-Ok.ensures.ok.1 c.read_document.result c.read_document.ensures.err

pub returns-else-is_memory-clause-err : goal.returns-else-is_memory-clause-err
returns-else-is_memory-clause-err c =
    let none : IsUtf8 c.args.bytes.now → parse_document c.args.bytes.now ≡ None = search rules in
    rw c.refused.ensures (no_toml none)
