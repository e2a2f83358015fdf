-- The taming text that enables nothing.
use Rattle.std.specs.Prelude.{ℕ, List, codes}

abbrev pub least_text : List ℕ
least_text = codes "version = 1"
