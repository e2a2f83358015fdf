use Rattle.elaborated_laws.proofs.ClassTexts.{texts_stand}
use Rattle.elaborated_laws.proofs.texts_stand.Goals as goal

pub returns : goal.returns
returns c = texts_stand
