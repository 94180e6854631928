-- The depths of points: each point has exactly one, at most the height.
use Rattle.std.proofs.Common.{◌≡◌, ℕ, ◌+◌, ◌≤◌, inl, inr, arith}
use Rattle.lattice.specs.Plane.{Pair}
use Rattle.lattice.proofs.Order.{before_irrefl}
use Rattle.lattice.specs.Plane.{turned_point}
use Rattle.bridge_search.specs.Trees.{Tree, Leaf, Fork, On, IsBridged, IsAtDepth, height_of}
use Rattle.bridge_search.specs.Search.{IsDepthSum}
use Rattle.bridge_search.specs.TurnedTrees.{turned_tree, depth_turned}

-- a point at some depth is a point of the half
pub on_at_depth : (t : Tree) (p : Pair) (n : ℕ) → IsAtDepth t p n → On t p
on_at_depth (Leaf x) p n h = h.0
on_at_depth (Fork e f u w) p n (k, h, inl i) = inl (on_at_depth u p k i)
on_at_depth (Fork e f u w) p n (k, h, inr i) = inr (on_at_depth w p k i)

-- no depth is more than the height
pub depth_within : (t : Tree) (p : Pair) (n : ℕ) → IsAtDepth t p n → n ≤ height_of t
depth_within (Leaf x) p n h = omega (arith, h.1)
depth_within (Fork e f u w) p n (k, h, inl i) = omega (arith, h, depth_within u p k i)
depth_within (Fork e f u w) p n (k, h, inr i) = omega (arith, h, depth_within w p k i)

-- two depths of one point are the same: no point is in both halves of a fork
pub one_depth : (t : Tree) (p : Pair) (m n : ℕ) → IsBridged t → IsAtDepth t p m → IsAtDepth t p n → m ≡ n
one_depth (Leaf x) p m n b h g = omega (arith, h.1, g.1)
one_depth (Fork e f u w) p m n b (k, h, inl i) (l, g, inl j) = omega (arith, h, g, one_depth u p k l b.3 i j)
one_depth (Fork e f u w) p m n b (k, h, inr i) (l, g, inr j) = omega (arith, h, g, one_depth w p k l b.4 i j)
one_depth (Fork e f u w) p m n b (k, h, inl i) (l, g, inr j) =
    absurd (before_irrefl p (b.0 p p (on_at_depth u p k i) (on_at_depth w p l j)))
one_depth (Fork e f u w) p m n b (k, h, inr i) (l, g, inl j) =
    absurd (before_irrefl p (b.0 p p (on_at_depth u p l j) (on_at_depth w p k i)))

-- the sum of the depths of two ends is at most the sum of the heights
pub sum_within : (u w : Tree) (p q : Pair) (n : ℕ) → IsDepthSum u w p q n → n ≤ height_of u + height_of w
sum_within u w p q n (i, j, a, b, h) = omega (arith, h, depth_within u p i a, depth_within w q j b)

-- the depths of two ends in rotated halves are those of the rotated ends
pub sum_turned : (u w : Tree) (p q : Pair) (n : ℕ) → IsDepthSum (turned_tree w) (turned_tree u) p q n
    → IsDepthSum u w (turned_point q) (turned_point p) n
sum_turned u w p q n (i, j, a, b, h) = (j, i, depth_turned u q j b, depth_turned w p i a, omega arith)
