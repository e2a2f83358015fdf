-- A set of texts beside the list of them.
use Rattle.std.specs.Borrow.{Bor}
use Rattle.std.specs.Prelude.{◌≡◌, ℕ, List}
use Rattle.std.specs.BTreeSet.{BTreeSet, contains}
use Rattle.std.specs.Cmp.Lexicographic.{slice_cmp}
use Rattle.std.specs.List.{list_any}
use Rattle.std.specs.Ordering.{nat_cmp}
use Rattle.std.specs.Str.{bytes_eq}

-- the set has what the list has
pub record Has (seen : BTreeSet (Bor (List ℕ))) (texts : List (List ℕ)) : Type 0 where
  pub each : (text : Bor (List ℕ)) →
      contains (λ x y. slice_cmp nat_cmp x.now y.now) seen text ≡ list_any (bytes_eq text.now) texts
