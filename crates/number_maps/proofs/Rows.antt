-- Worked rows: keys of two bits.
use Rattle.std.proofs.Common.{◌≡◌, ℕ, List, [], ◌∷◌, Some, None, refl}
use Rattle.std.specs.Prelude.{true, false}
use Rattle.number_maps.specs.declared.maps.Node.{Node}
use Rattle.number_maps.specs.way.Nodes.{found, is_tree}

abbrev node : ℕ → ℕ → Node
node even odd = record { even = even; odd = odd }

-- the empty map, then one that has 7 for the key 2, then one that has 0 for the key 1 too
abbrev nodes : List Node
nodes = node 0 0 ∷ node 0 8 ∷ node 1 0 ∷ node 1 0 ∷ node 1 3 ∷ []

-- the second key's node is shared
values : (found nodes 2 2 2 ≡ Some 7) × (found nodes 2 2 0 ≡ None) × (found nodes 2 2 1 ≡ None) × (found nodes 2 4 2 ≡ Some 7) × (found nodes 2 4 1 ≡ Some 0)
values = (refl, refl, refl, refl, refl)

trees : (is_tree nodes 2 0 ≡ true) × (is_tree nodes 2 2 ≡ true) × (is_tree nodes 2 5 ≡ false)
trees = (refl, refl, refl)
