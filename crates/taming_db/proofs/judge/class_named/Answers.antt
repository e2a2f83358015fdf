use Rattle.std.proofs.Common.{◌∙◌}
use Rattle.taming_db.proofs.Places.{class_place}
use Rattle.taming_db.proofs.judge.class_named.Goals as goal

pub returns : goal.returns
returns c = c.place_of.ensures ∙ class_place c.class_rows.result.now c.args.name.now c.class_rows.ensures
