use Rattle.typing_laws.proofs.Subtypes.{subtypes_are_erased}
use Rattle.typing_laws.proofs.subtypes_are_erased.Goals as goal

pub returns : goal.returns
returns c = subtypes_are_erased
