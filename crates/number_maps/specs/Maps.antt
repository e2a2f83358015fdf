-- Maps from numbers to numbers, in families whose members share what they have in common.
use Rattle.std.specs.Prelude.{◌≡◌, ℕ, ◌<◌, ◌^◌, Bool, true, Option, Some, None, nat_eq, if◌then◌else◌}
use Rattle.number_maps.specs.way.Nodes.{is_tree, found}
use Rattle.number_maps.specs.declared.maps.Maps.{Maps}

-- How many bits a key has, which numbers are those of maps, and what each map has for each key.
pub record Family : Type 0 where
  pub bits : ℕ
  pub is_map : ℕ → Bool
  pub value : ℕ → ℕ → Option ℕ

-- what contracts see of maps
unfoldable pub family : Maps → Family
family maps = record { bits = maps.bits; is_map = is_tree maps.nodes.items maps.bits; value = found maps.nodes.items maps.bits }

abbrev pub IsMap : Family → ℕ → Type 0
IsMap f map = f.is_map map ≡ true

-- a map that has nothing
pub record IsEmpty (f : Family) (map : ℕ) : Type 0 where
  pub there : IsMap f map
  pub nothing : (key : ℕ) → f.value map key ≡ None

-- The maps that were there stay as they are.
pub record Keeps (old new : Family) : Type 0 where
  pub bits : new.bits ≡ old.bits
  pub there : (map : ℕ) → IsMap old map → IsMap new map
  pub same : (map key : ℕ) → IsMap old map → new.value map key ≡ old.value map key

-- A map has what another one has, but this value for this key.
pub record HasMore (old new : Family) (map key value made : ℕ) : Type 0 where
  pub there : IsMap new made
  pub each : (other : ℕ) → other < 2 ^ old.bits → new.value made other ≡ (if nat_eq other key then Some value else old.value map other)
