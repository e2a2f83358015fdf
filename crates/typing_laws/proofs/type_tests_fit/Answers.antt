use Rattle.typing_laws.proofs.References.{type_tests_fit}
use Rattle.typing_laws.proofs.type_tests_fit.Goals as goal

pub returns : goal.returns
returns c = type_tests_fit
