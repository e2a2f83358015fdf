use Rattle.source_types.proofs.Subtyping.{subtypes_decided}
use Rattle.source_types.proofs.subtypes_are_decided.Goals as goal

pub returns : goal.returns
returns c = subtypes_decided
