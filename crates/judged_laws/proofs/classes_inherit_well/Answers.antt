use Rattle.judged_laws.proofs.Inheriting.{classes_inherit_well}
use Rattle.judged_laws.proofs.classes_inherit_well.Goals as goal

pub returns : goal.returns
returns c = classes_inherit_well
