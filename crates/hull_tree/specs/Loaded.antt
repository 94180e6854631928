-- The entries from which a tree is loaded at once: points in order, each with its multiplicity.
use Rattle.std.specs.Prelude.{◌≡◌, ℕ, ◌*◌, ◌^◌, ◌<◌, ◌≤◌, List, [], ◌∷◌, ◌++◌, length, Option, Some, None}
use Rattle.lattice.specs.Plane.{Pair}
use Rattle.leaf_trees.specs.Entries.{points_listed, multiplicity_listed}
use Rattle.hull_tree.specs.declared.node.Node.{Node}
use Rattle.hull_tree.specs.declared.node.Node as node
use Rattle.hull_tree.specs.declared.node.Halves as halves
use Rattle.hull_tree.specs.Nodes.{multiplicity_below, IsWellBuilt}
use Rattle.hull_tree.specs.Changes.{points_below, height_at}

-- the points below a node in order, each with its multiplicity
abbrev pub entries_below : Node → List (Pair × ℕ)
entries_below (node.Node' upper lower height near multiplicity node.None') = (upper.0, multiplicity) ∷ []
entries_below (node.Node' upper lower height near multiplicity
    (node.Some' i (halves.Halves' left right last_left right_first))) = entries_below left ++ entries_below right

-- the points of a whole tree
abbrev pub entries_of_root : Option Node → List (Pair × ℕ)
entries_of_root None = []
entries_of_root (Some n) = entries_below n

-- n has to be halved this many times, rounding up, until one is left
abbrev pub IsHalvings : ℕ → ℕ → Type 0
IsHalvings n h = (n ≤ 2 ^ h) × (2 ^ h < 2 * n)

-- a well-built node with the points of the entries and their multiplicities, and the least possible height
pub record IsOver (entries : List (Pair × ℕ)) (n : Node) : Type 0 where
  pub built : IsWellBuilt n
  pub points : points_below n ≡ points_listed entries
  pub multiplicities : (q : Pair) → multiplicity_below n q ≡ multiplicity_listed entries q
  pub height : IsHalvings (length entries) (height_at n)
