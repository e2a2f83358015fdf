-- The UTF-16 units of a text.
use Rattle.std.specs.Prelude.{ℕ, List, flat_map}
use Rattle.std.specs.Char.Escape.{encode_utf16}
use Rattle.std.specs.Str.{chars}

abbrev pub units_of : List ℕ → List ℕ
units_of text = flat_map encode_utf16 (chars text)
