-- Whether something was found.
use Rattle.std.specs.Prelude.{Bool, true, false, List, [], ◌∷◌}

abbrev pub any : {A : Type 0} → List A → Bool
any [] = false
any (x ∷ xs) = true
