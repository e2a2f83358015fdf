use Rattle.je_classes.proofs.MethodSets.{methods_found}
use Rattle.je_classes.proofs.methods_are_found.Goals as goal

pub returns : goal.returns
returns c = methods_found
