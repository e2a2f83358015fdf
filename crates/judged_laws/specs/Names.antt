-- What the names of a source give, where they have no fault.
use Rattle.std.specs.Prelude.{◌≡◌, None}
use Rattle.je_scopes.specs.Faults.{first_fault}
use Rattle.je_scopes.specs.Laws.{IsAcyclic}
use Rattle.je_scopes.specs.Source.{Source}

-- No name has a fault, and so no class depends on itself (JLS 8.1.4).
pub record NamesAreGood (source : Source) : Type 0 where
  pub faultless : first_fault source ≡ None
  pub acyclic : IsAcyclic source
