-- What a walk has found: one break after the other.
use Rattle.std.specs.Prelude.{List, [], ◌∷◌, ◌++◌}
use Rattle.rule_breaks.specs.declared.breaks.Break.{Break}
use Rattle.rule_breaks.specs.Breaks.{Breaks, none, one, ◌∪◌}

-- what was found before, and then the breaks of the set
abbrev pub followed_by : List Break → Breaks → List Break
followed_by before none = before
followed_by before (one b) = before ++ b ∷ []
followed_by before (a ∪ b) = followed_by (followed_by before a) b
