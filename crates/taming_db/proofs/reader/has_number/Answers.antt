use Rattle.std.proofs.Common.{refl}
use Rattle.taming_db.proofs.reader.has_number.Goals as goal

pub returns : goal.returns
returns c = rw (c.number.ensures) refl
