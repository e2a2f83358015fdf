use Rattle.je_worlds.specs.Agree.{Renames}
use Rattle.je_worlds.proofs.Agreements.{other-value}
use Rattle.je_worlds.proofs.ends_and_counts_count.Goals as goal

pub returns-clause-value : goal.returns-clause-value
returns-clause-value c = λ renaming. other-value (Renames renaming)
