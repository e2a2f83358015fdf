use Rattle.std.proofs.Common.{◌∙◌, sym}
use Rattle.taming_db.specs.Rows.{is_of}
use Rattle.taming_db.specs.View.{row_view}
use Rattle.taming_db.proofs.Mapped.{any_seen}
use Rattle.taming_db.proofs.judge.is_taken.Goals as goal

pub returns : goal.returns
returns c = c.is_class_of.ensures ∙ sym (any_seen (is_of c.args.class) row_view c.args.earlier.now)
