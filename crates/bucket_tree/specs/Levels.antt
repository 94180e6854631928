-- The bridges that a tree stores, level by level (Overmars and van Leeuwen, 1981).
use Rattle.std.specs.Prelude.{◌==◌, ◌+◌, ℕ, List, [], ◌∷◌, ◌++◌, Option, Some, None, if◌then◌else◌}
use Rattle.leaf_trees.specs.declared.bridge.Bridge.{Bridge}
use Rattle.bucket_tree.specs.declared.node.Node.{Node, Leaf, Fork', Taken}

-- what the forks of a level store, from left to right; the node itself is on level `here`; a bucket stores none
unfoldable pub level_of : ℕ → ℕ → Node → List Bridge
level_of wanted here (Leaf b) = []
level_of wanted here (Fork' height i left right right_ends upper left_ends lower) = if here == wanted
    then record { level = wanted; upper = upper; lower = lower } ∷ []
    else level_of wanted (here + 1) left ++ level_of wanted (here + 1) right
level_of wanted here Taken = []

-- the bridges that the forks of a level of a whole tree store
abbrev pub bridges_at : ℕ → Option Node → List Bridge
bridges_at level None = []
bridges_at level (Some n) = level_of level 0 n
