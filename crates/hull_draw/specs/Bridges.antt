-- The stored bridges that are drawn: those of the first levels of a tree.
use Rattle.std.specs.Prelude.{ℕ, zero, suc, List, [], ◌++◌, Option, Some, None}
use Rattle.bridge_search.specs.Trees.{Tree}
use Rattle.hull_tree.specs.declared.node.Node.{Node}
use Rattle.hull_tree.specs.Levels.{level_of}
use Rattle.hull_tree.specs.Nodes.{tree_of}
use Rattle.leaf_trees.specs.declared.bridge.Bridge.{Bridge}
use Rattle.hull_draw.specs.declared.bridges.TheConstants.{LEVEL_LIMIT}

-- the bridges that the forks of the first n levels store, the root's first
unfoldable pub levels_of : ℕ → Tree → List Bridge
levels_of zero t = []
levels_of (suc n) t = levels_of n t ++ level_of n 0 t

-- the stored bridges of a whole tree that are drawn
abbrev pub bridges_of : Option Node → List Bridge
bridges_of None = []
bridges_of (Some n) = levels_of LEVEL_LIMIT (tree_of n)
