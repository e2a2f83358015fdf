use Rattle.std.proofs.Common.{◌∙◌}
use Rattle.name_sites.proofs.Positions.{row_named}
use Rattle.name_sites.proofs.library.class_named.Goals as goal

pub returns-in-Some : goal.returns-in-Some
returns-in-Some c = c.in-Some.ensures.place ∙ row_named c.class_rows.result.now c.args.full.now c.class_rows.ensures

pub returns-in-None : goal.returns-in-None
returns-in-None c = c.in-None.ensures.place ∙ row_named c.class_rows.result.now c.args.full.now c.class_rows.ensures
