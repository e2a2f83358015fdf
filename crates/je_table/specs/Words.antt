-- Java's keywords (JLS 3.9) with the literals `true`, `false` and `null` (JLS 3.10.3, 3.10.7), as a list of texts.
use Rattle.std.specs.Prelude.{ℕ, List, map}
use Rattle.je_table.specs.declared.words.TheConstants.{KEYWORDS}

abbrev pub keywords : List (List ℕ)
keywords = map (λ row. row.now) KEYWORDS
