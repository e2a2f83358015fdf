-- Words in memory that are all plain.
use Rattle.std.proofs.Common.{◌≡◌, List, map, String, Global}
use Rattle.std.specs.Prelude.{string_bytes}
use Rattle.std.specs.List.{list_all}
use Rattle.std.proofs.lemmas.List.Folds.{list_all-map}
use Rattle.je_top.specs.Words.{is_plain}

pub all_plain : (words : List (String Global)) → list_all is_plain (map string_bytes words) ≡ list_all (λ word. is_plain (string_bytes word)) words
all_plain words = list_all-map is_plain string_bytes words
