-- What stands of the first classes of a source.
use Rattle.std.specs.Prelude.{◌≡◌, ℕ, ◌<◌, List, length, take, filter, Option, slice_index}
use Rattle.je_base.specs.declared.span.NameId.{NameId}
use Rattle.je_scopes.specs.Source.{Source}
use Rattle.je_scopes.specs.BinaryNames.{binary_name}
use Rattle.binary_names.specs.declared.counts.Counts.{Counts}
use Rattle.binary_names.specs.declared.texts.Texts.{Texts}
use Rattle.binary_names.specs.Counts.{counted, is_there}
use Rattle.binary_names.specs.Texts.{IsText}

-- The local and anonymous ones among so many classes are counted.
unfoldable pub AreCounted : Source → ℕ → Counts → Type 0
AreCounted p n counts = (place : Option ℕ) (name : Option NameId) → counted counts place name ≡ length (filter (is_there place name) (take n p.sites))

-- These are the numbers of the binary names of the first classes.
unfoldable pub AreNamed : Source → Texts → List ℕ → Type 0
AreNamed p texts names = (c : ℕ) → c < length names → IsText texts (slice_index names c) (binary_name p c)
