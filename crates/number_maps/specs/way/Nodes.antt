-- The nodes of maps.
use Rattle.std.specs.Prelude.{◌≡◌, ℕ, zero, suc, ◌<◌, ◌≤◌, ◌^◌, ◌%◌, ◌/◌, Bool, true, false, ◌&&◌, List, length, Option, Some, None, slice_get, nat_lt, nat_eq, if◌then◌else◌}
use Rattle.number_maps.specs.declared.maps.Node.{Node}

abbrev pub bit_of : Bool → ℕ
bit_of true = 1
bit_of false = 0

abbrev pub branch : Option Node → ℕ → ℕ
branch None bit = 0
branch (Some n) zero = n.even
branch (Some n) (suc bit) = n.odd

-- what is left of a map behind a bit
abbrev pub child : List Node → ℕ → ℕ → ℕ
child nodes at bit = branch (slice_get nodes at) bit

-- a value behind the last bit, which stands one greater than it is
abbrev pub value_of : ℕ → Option ℕ
value_of zero = None
value_of (suc value) = Some value

-- what a map of keys of so many bits has for a key
abbrev pub found : List Node → ℕ → ℕ → ℕ → Option ℕ
found nodes zero at key = value_of at
found nodes (suc bits) at key = found nodes bits (child nodes at (key % 2)) (key / 2)

-- whether the nodes of a map of keys of so many bits are there
abbrev pub is_tree : List Node → ℕ → ℕ → Bool
is_tree nodes zero at = true
is_tree nodes (suc bits) at = nat_lt at (length nodes) && is_tree nodes bits (child nodes at 0) && is_tree nodes bits (child nodes at 1)

abbrev pub empty : Node
empty = record { even = 0; odd = 0 }

abbrev pub BeginsEmpty : List Node → Type 0
BeginsEmpty nodes = slice_get nodes 0 ≡ Some empty

-- the maps that were there stay
pub record Grows (old new : List Node) : Type 0 where
  pub first : slice_get new 0 ≡ slice_get old 0
  pub trees : (bits at : ℕ) → is_tree old bits at ≡ true → is_tree new bits at ≡ true
  pub same : (bits at key : ℕ) → is_tree old bits at ≡ true → found new bits at key ≡ found old bits at key

pub record IsNode (nodes : List Node) (even odd at : ℕ) : Type 0 where
  pub within : at < length nodes
  pub is : slice_get nodes at ≡ Some (record { even = even; odd = odd })

-- a map of keys of so many bits that has this value for this key, and for each other one what another map has
pub record IsWith (nodes : List Node) (bits map : ℕ) (had : ℕ → Option ℕ) (key value : ℕ) : Type 0 where
  pub there : is_tree nodes bits map ≡ true
  pub each : (k : ℕ) → k < 2 ^ bits → key < 2 ^ bits → found nodes bits map k ≡ (if nat_eq k key then Some value else had k)
