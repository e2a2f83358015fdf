-- What holds of a value, where there is one.
use Rattle.std.specs.Prelude.{Bool, true, Option, Some, None}

abbrev pub kept_option : {A : Type 0} → (A → Bool) → Option A → Bool
kept_option f None = true
kept_option f (Some a) = f a
