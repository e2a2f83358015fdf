-- What a list of the types above a type has.
use Rattle.std.specs.Prelude.{◌≡◌, List}
use Rattle.je_scopes.specs.SourceTypes.{SourceType}
use Rattle.source_types.specs.Heads.{ClassHead}
use Rattle.source_types.specs.Supertypes.{has_type, supertypes}

-- the same types as the definition's list, in whatever order and number
pub record HasTypesAbove (heads : List ClassHead) (t : SourceType) (types : List SourceType) : Type 0 where
  pub each : (u : SourceType) → has_type types u ≡ has_type (supertypes heads t) u
