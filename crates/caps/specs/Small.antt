-- Pairs of a store whose texts it may give.
use Rattle.std.specs.Prelude.{Bool}
use Rattle.caps.specs.declared.store.Pair.{Pair}
use Rattle.caps.specs.Forms.{is_small}

abbrev pub is_small_pair : Pair → Bool
is_small_pair pair = is_small pair.text
