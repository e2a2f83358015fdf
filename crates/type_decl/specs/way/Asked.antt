-- What contracts see of which classes are asked.
use Rattle.std.specs.Prelude.{ℕ, Bool, List, slice_get}
use Rattle.body_scopes.specs.View.{is_set}

-- none past the last
abbrev pub is_asked : List Bool → ℕ → Bool
is_asked asked c = is_set (slice_get asked c)
