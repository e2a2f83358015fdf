use Rattle.std.proofs.Common.{refl}
use Rattle.binary_names.specs.Steps.{empty}
use Rattle.binary_names.specs.Texts.{IsText}
use Rattle.binary_names.proofs.texts.Texts.new.Goals as goal

pub returns : goal.returns
unfolding IsText
returns c = empty refl refl
