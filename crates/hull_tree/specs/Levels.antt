-- The bridges that a tree stores, level by level (Overmars and van Leeuwen, 1981).
use Rattle.std.specs.Prelude.{◌==◌, ◌+◌, ℕ, List, [], ◌∷◌, ◌++◌, Option, Some, None, if◌then◌else◌}
use Rattle.bridge_search.specs.Trees.{Tree, Leaf, Fork}
use Rattle.hull_tree.specs.declared.node.Node.{Node}
use Rattle.leaf_trees.specs.declared.bridge.Bridge.{Bridge}
use Rattle.hull_tree.specs.Nodes.{tree_of}

-- what the forks of a level store, from left to right; the tree itself is on level `here`
unfoldable pub level_of : ℕ → ℕ → Tree → List Bridge
level_of wanted here (Leaf x) = []
level_of wanted here (Fork e f u w) = if here == wanted
    then record { level = wanted; upper = e; lower = f } ∷ []
    else level_of wanted (here + 1) u ++ level_of wanted (here + 1) w

-- the bridges that the forks of a level of a whole tree store
abbrev pub bridges_at : ℕ → Option Node → List Bridge
bridges_at level None = []
bridges_at level (Some n) = level_of level 0 (tree_of n)
