use Rattle.je_classes.proofs.Subtyping.{subtypes_decided}
use Rattle.je_classes.proofs.subtypes_are_decided.Goals as goal

pub returns : goal.returns
returns c = subtypes_decided
