-- The number of turns of the searches of a fork's bridges, and of those of all forks above a point.
use Rattle.std.specs.Prelude.{◌≡◌, ◌⊎◌, ℕ, ◌+◌, ◌*◌, ◌≤◌, Option, Some, None}
use Rattle.lattice.specs.Plane.{Pair}
use Rattle.bridge_search.specs.Trees.{Tree, Leaf, Fork, IsAtDepth}
use Rattle.bridge_search.specs.Search.{IsDepthSum}
use Rattle.hull_set.specs.declared.set.AddReply.{AddReply}
use Rattle.hull_set.specs.declared.set.AddReply.TheVariants.{Added, Again, TooMany, NoMemory}
use Rattle.leaf_trees.specs.Heights.{greatest_height}
use Rattle.hull_tree.specs.declared.node.Node.{Node}
use Rattle.hull_tree.specs.Nodes.{tree_of}

-- at most this many for a fork's two bridges: each search takes at most the sum of the heights of both halves
abbrev pub turns_a_fork : ℕ
turns_a_fork = 2 * (greatest_height + greatest_height)

-- at most this many for a level of a change, which renews at most three forks there
abbrev pub turns_a_level : ℕ
turns_a_level = 3 * turns_a_fork

-- n is the sum of the depths of both bridges' ends in the two halves: e the upper, f the lower bridge
abbrev pub IsForkCost : Pair × Pair → Pair × Pair → Tree → Tree → ℕ → Type 0
IsForkCost e f u w n = (a : ℕ) × (b : ℕ) × IsDepthSum u w e.0 e.1 a × IsDepthSum u w f.0 f.1 b × (n ≡ a + b)

-- p is a point of the tree, and n the sum of the costs of the forks above it
abbrev pub IsPathCost : Tree → Pair → ℕ → Type 0
IsPathCost (Leaf x) p n = (p ≡ x) × (n ≡ 0)
IsPathCost (Fork e f u w) p n =
    (a : ℕ) × (k : ℕ) × IsForkCost e f u w a × (n ≡ a + k) × (IsPathCost u p k ⊎ IsPathCost w p k)

-- n turns are at least the cost of the forks above p, which is a point of the tree
abbrev pub IsCostAtMost : Tree → Pair → ℕ → Type 0
IsCostAtMost t p n = (k : ℕ) × IsPathCost t p k × (k ≤ n)

-- each point of t is a point of v, and the forks above it cost there at most n more
abbrev pub IsDearerByAtMost : Tree → Tree → ℕ → Type 0
IsDearerByAtMost t v n = (p : Pair) (k : ℕ) → IsPathCost t p k → (m : ℕ) × IsPathCost v p m × (m ≤ k + n)

-- p is a point of a whole tree, and n turns are at least the cost of the forks above it; nothing has no points
abbrev pub IsRootCostAtMost : Option Node → Pair → ℕ → Type 0
IsRootCostAtMost None p n = ⊥
IsRootCostAtMost (Some root) p n = IsCostAtMost (tree_of root) p n

-- if p was added to the tree that is now `root`, the turns are at least the cost of the forks above p; any other reply took none
abbrev pub IsLeastCount : AddReply → Option Node → Pair → ℕ → Type 0
IsLeastCount Added root p n = IsRootCostAtMost root p n
IsLeastCount (Again multiplicity) root p n = n ≡ 0
IsLeastCount TooMany root p n = n ≡ 0
IsLeastCount NoMemory root p n = n ≡ 0

-- the answer is a point of the tree, below n forks; in no tree there is no answer, and n is 0
abbrev pub IsLeafDepth : Option Node → Option Pair → ℕ → Type 0
IsLeafDepth None None n = n ≡ 0
IsLeafDepth None (Some t) n = ⊥
IsLeafDepth (Some root) None n = ⊥
IsLeafDepth (Some root) (Some t) n = IsAtDepth (tree_of root) t n
