-- The finite tree that a node represents, over the vertices of its buckets, and the conditions of being well built (Overmars and van Leeuwen, 1981;
-- Adelson-Velsky and Landis, 1962).
use Rattle.std.specs.Prelude.{◌≡◌, ℕ, ◌+◌, ◌≤◌, max, List, [], ◌++◌}
use Rattle.lattice.specs.Covers.{IsPointSet}
use Rattle.lattice.specs.Plane.{Pair}
use Rattle.bridge_search.specs.Trees.{Tree, Leaf as LeafTree, Fork as ForkTree, IsBridged}
use Rattle.hull_buckets.specs.Buckets.{BucketValue, IsBucket}
use Rattle.hull_buckets.specs.Slices.{tree_of_slice, all_of}
use Rattle.hull_geometry.specs.Positions.{origin, first_of, last_of}
use Rattle.bucket_tree.specs.declared.node.Node.{Node, Leaf, Fork', Taken}
use Rattle.bucket_tree.specs.declared.node.Ends.{Ends}
use Rattle.bucket_tree.specs.declared.node.Fork.{Fork}

-- the half of a hull that a bucket's vertices are
abbrev pub tree_of_bucket : BucketValue → Tree
tree_of_bucket b = tree_of_slice b (all_of b)

-- the half of a hull that a node is: of its buckets only the vertices
abbrev pub tree_of : Node → Tree
tree_of (Leaf b) = tree_of_bucket b.value
tree_of (Fork' height i left right right_ends upper left_ends lower) =
    ForkTree upper lower (tree_of left) (tree_of right)
tree_of Taken = LeafTree origin

-- the half that a fork is
abbrev pub tree_at : Fork → Tree
tree_at f = ForkTree f.upper f.lower (tree_of f.left) (tree_of f.right)

-- all points below a node, in order
abbrev pub points_below : Node → List Pair
points_below (Leaf b) = b.value.points
points_below (Fork' height i left right right_ends upper left_ends lower) = points_below left ++ points_below right
points_below Taken = []

-- the multiplicity of each of them
abbrev pub multiplicities_below : Node → List ℕ
multiplicities_below (Leaf b) = b.value.multiplicities
multiplicities_below (Fork' height i left right right_ends upper left_ends lower) = multiplicities_below left ++
    multiplicities_below right
multiplicities_below Taken = []

-- the height of a node: the number of forks above its deepest bucket
abbrev pub node_height : Node → ℕ
node_height (Leaf b) = 0
node_height (Fork' height i left right right_ends upper left_ends lower) = max (node_height left) (node_height right)
    + 1
node_height Taken = 0

-- the numbers differ by at most one
abbrev pub AreNear : ℕ → ℕ → Type 0
AreNear m n = (m ≤ n + 1) × (n ≤ m + 1)

-- the heights of the two halves of each fork differ by at most one
abbrev pub IsBalanced : Node → Type 0
IsBalanced (Leaf b) = Unit {0}
IsBalanced (Fork' height i left right right_ends upper left_ends lower) =
    AreNear (node_height left) (node_height right) × IsBalanced left × IsBalanced right
IsBalanced Taken = Unit {0}

-- the first and the last point of a list
abbrev pub ends_in : List Pair → Ends
ends_in S = record { first = first_of S; last = last_of S }

-- each fork stores its height, and the first and the last point of each half
abbrev pub IsLabelled : Node → Type 0
IsLabelled (Leaf b) = Unit {0}
IsLabelled (Fork' height i left right right_ends upper left_ends lower) =
    (left_ends ≡ ends_in (points_below left)) × (right_ends ≡ ends_in (points_below right))
    × (height ≡ max (node_height left) (node_height right) + 1) × IsLabelled left × IsLabelled right
IsLabelled Taken = Unit {0}

-- each bucket below a node is well formed, and no gap is left
abbrev pub HasBuckets : Node → Type 0
HasBuckets (Leaf b) = IsBucket b.value
HasBuckets (Fork' height i left right right_ends upper left_ends lower) = HasBuckets left × HasBuckets right
HasBuckets Taken = ⊥

-- no gap is left below a node
abbrev pub IsWhole : Node → Type 0
IsWhole (Leaf b) = Unit {0}
IsWhole (Fork' height i left right right_ends upper left_ends lower) = IsWhole left × IsWhole right
IsWhole Taken = ⊥

-- nor below a fork
abbrev pub AreWhole : Fork → Type 0
AreWhole f = IsWhole f.left × IsWhole f.right

-- a well-built node: the points are in order, the edges that each fork stores are the bridges of its halves, it is balanced, and it stores its height
-- and the ends of its halves
pub record IsWellBuilt (n : Node) : Type 0 where
  pub ordered : IsPointSet (points_below n)
  pub bridged : IsBridged (tree_of n)
  pub balanced : IsBalanced n
  pub labelled : IsLabelled n
  pub buckets : HasBuckets n

-- two well-built nodes, all points of the one before all points of the other
pub record AreInRow (l r : Node) : Type 0 where
  pub left_built : IsWellBuilt l
  pub right_built : IsWellBuilt r
  pub in_order : IsPointSet (points_below l ++ points_below r)

-- the height h of a node that is made of two of heights l and r: that of the fork over them, or one less if they differ by two
abbrev pub IsHeightOver : ℕ → ℕ → ℕ → Type 0
IsHeightOver l r h = (max l r ≤ h) × (h ≤ max l r + 1) × (AreNear l r → h ≡ max l r + 1)
