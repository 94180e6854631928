-- A tree with a limit on the number of its points, as contracts see it, and its invariant.
use Rattle.std.specs.Prelude.{◌≡◌, ℕ, ◌≤◌, Option, Some, length, option_map}
use Rattle.lattice.specs.Covers.{IsPointSet}
use Rattle.bridge_search.specs.Trees.{Tree, size_of}
use Rattle.bridge_search.specs.Leaves.{points_of}
use Rattle.hull_set.specs.declared.TheConstants.{POINT_LIMIT}
use Rattle.hull_set.specs.declared.set.HullSet.{Ghosts}
use Rattle.hull_tree.specs.declared.node.Node.{Node}
use Rattle.hull_tree.specs.Nodes.{tree_of}
use Rattle.hull_tree.specs.Roots.{points_of_root, held_by, IsWellBuiltRoot, height_of_root}

-- the greatest number of points, and the tree
pub record LimitedTree : Type 0 where
  pub limit : ℕ
  pub root : Option Node

-- a well-built tree with its number of points and its limit
pub record IsLimited (root : Option Node) (count limit : ℕ) : Type 0 where
  pub built : IsWellBuiltRoot root
  pub counted : count ≡ length (points_of_root root)
  pub space : count ≤ limit
  pub low : 1 ≤ limit
  pub high : limit ≤ POINT_LIMIT

-- the tree is well built, its points are in order, and it is at most 28 high
pub record IsSound (root : Option Node) : Type 0 where
  pub built : IsWellBuiltRoot root
  pub in_order : IsPointSet (points_of_root root)
  pub low : height_of_root root ≤ 28

-- the ghosts of a tree for the trait `HullSet`: the set that it contains, its bound, and that it is well built, so that each stored bridge is that of
-- the points below it
abbrev pub hull_tree : Ghosts LimitedTree
hull_tree = record { held = λ t. held_by t.root; bound = λ t. t.limit; sound = λ t. IsSound t.root }

-- the half is the tree, with its points, at most as many as its limit
pub record IsWhole (t : LimitedTree) (u : Tree) : Type 0 where
  pub own : option_map tree_of t.root ≡ Some u
  pub points : points_of_root t.root ≡ points_of u
  pub few : size_of u ≤ t.limit
  pub high : t.limit ≤ POINT_LIMIT
