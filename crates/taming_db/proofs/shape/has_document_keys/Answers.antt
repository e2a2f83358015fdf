use Rattle.std.proofs.Common.{rules, ◌≡◌}
use Rattle.std.specs.BTreeMap.{keys}
use Rattle.taming_db.specs.Shape.{is_document_key}
use Rattle.taming_db.proofs.Keys.{keys_pass}
use Rattle.taming_db.proofs.shape.has_document_keys.Goals as goal

pub loop-key-init : goal.loop-key-init
loop-key-init c =
    let e : c.into_iter-key-iterator.result ≡ keys c.args.table.now = search rules in
    rw e (keys_pass is_document_key c.args.table.now.entries)
