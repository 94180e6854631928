-- The halves from which the tests are built.
use Rattle.std.specs.Prelude.{◌≤◌, Option, Some, None, option_map}
use Rattle.std.proofs.Common.{arith, inl, inr}
use Rattle.lattice.specs.Plane.{Pair}
use Rattle.bridge_search.specs.Trees.{Tree, Leaf, Fork, On, height_of, highest}

-- one point, or two with the edge from the one to the other
abbrev pub small_tree : Pair → Option Pair → Tree
small_tree p None = Leaf p
small_tree p (Some q) = Fork (p, q) (p, q) (Leaf p) (Leaf q)

-- one half, or two with the bridges between them
abbrev pub joined_tree : Tree → Option Tree → Pair × Pair → Pair × Pair → Tree
joined_tree u None upper lower = u
joined_tree u (Some w) upper lower = Fork upper lower u w

-- the height of a half of two points is allowed
pub small_low : (p : Pair) (q : Option Pair) → height_of (small_tree p q) ≤ highest
small_low p None = omega arith
small_low p (Some q) = omega arith

-- a property of all points of both halves is one of all points of the two together
pub joined_fits : {A : Type 0} (P : Pair → Type 0) (tree : A → Tree) → ((x : A) (p : Pair) → On (tree x) p → P p)
    → (u : A) (w : Option A) (e f : Pair × Pair) (p : Pair) → On (joined_tree (tree u) (option_map tree w) e f) p → P p
joined_fits P tree all u None e f p i = all u p i
joined_fits P tree all u (Some w) e f p (inl i) = all u p i
joined_fits P tree all u (Some w) e f p (inr i) = all w p i
