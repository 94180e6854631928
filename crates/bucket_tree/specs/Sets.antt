-- A tree with a limit on the number of its points, as contracts see it, and its invariant.
use Rattle.std.specs.Prelude.{◌≡◌, ℕ, ◌≤◌, Option, length}
use Rattle.lattice.specs.Covers.{IsPointSet}
use Rattle.hull_set.specs.declared.TheConstants.{POINT_LIMIT}
use Rattle.hull_set.specs.declared.set.HullSet.{Ghosts}
use Rattle.bucket_tree.specs.declared.node.Node.{Node}
use Rattle.bucket_tree.specs.Roots.{points_of_root, held_by, IsWellBuiltRoot, forks_of_root}

-- the greatest number of points, and the tree
pub record LimitedTree : Type 0 where
  pub limit : ℕ
  pub root : Option Node

-- a well-built tree with its number of points and its limit
pub record IsLimited (root : Option Node) (count limit : ℕ) : Type 0 where
  pub built : IsWellBuiltRoot root
  pub counted : count ≡ length (points_of_root root)
  pub space : count ≤ limit
  pub low : 1 ≤ limit
  pub high : limit ≤ POINT_LIMIT

-- the tree is well built, its points are in order, and at most 28 forks are above each bucket
pub record IsSound (root : Option Node) : Type 0 where
  pub built : IsWellBuiltRoot root
  pub in_order : IsPointSet (points_of_root root)
  pub low : forks_of_root root ≤ 28

-- the ghosts of a tree for the trait `HullSet`: the set that it contains, its bound, and that it is well built, so that each stored bridge is that of
-- the points below it, and each bucket's masks are its chains
abbrev pub bucket_set : Ghosts LimitedTree
bucket_set = record { held = λ t. held_by t.root; bound = λ t. t.limit; sound = λ t. IsSound t.root }
