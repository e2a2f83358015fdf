-- Texts by number, as the steps by which they are made from each other.
use Rattle.std.specs.Prelude.{◌≡◌, ℕ, suc, Bool, ◌&&◌, List, [], ◌∷◌, ◌++◌, Some, slice_get, nat_eq}

abbrev pub same_step : ℕ × ℕ → ℕ × ℕ → Bool
same_step a b = nat_eq a.0 b.0 && nat_eq a.1 b.1

-- The text of a number: 0 is the empty one, and the step at `k` makes the one of `k + 1` by a byte behind that of another.
pub data Spells (steps : List (ℕ × ℕ)) : ℕ → List ℕ → Type 0 where
  empty : {n : ℕ} {text : List ℕ} → n ≡ 0 → text ≡ [] → Spells steps n text
  longer : {n : ℕ} {text : List ℕ} (k m byte : ℕ) (shorter : List ℕ) → n ≡ suc k → text ≡ shorter ++ byte ∷ [] → slice_get steps k ≡ Some (m, byte) → Spells steps m shorter → Spells steps n text
