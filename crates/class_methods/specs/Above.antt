-- When a list has what a definition's list has.
use Rattle.std.specs.Prelude.{◌≡◌, Bool, List}
use Rattle.std.specs.List.{list_any}

-- both pass the same tests, so they have the same members, in whatever order and number
pub record HasSame {A : Type 0} (xs ys : List A) : Type 0 where
  pub each : (test : A → Bool) → list_any test xs ≡ list_any test ys
