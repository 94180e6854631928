-- A rotation by 180 degrees.
use Rattle.std.specs.Prelude.{◌≡◌, ℕ, ◌≤◌}
use Rattle.std.proofs.Common.{refl, ap, subst, ◌∙◌, arith, inl, inr}
use Rattle.lattice.specs.Plane.{Pair, turned_point}
use Rattle.lattice.specs.Bridges.{IsAllBefore, IsUpperBridge, IsLowerBridge}
use Rattle.bridge_search.specs.Trees.{Tree, Leaf, Fork, On, IsBridged}
use Rattle.bridge_search.specs.Trees.{first_of, last_of, height_of, IsAtDepth, highest}
use Rattle.lattice.specs.declared.side.Side.TheVariants.{Lower, Upper}
use Rattle.lattice.proofs.TurnedBridges.{turned_twice, AreTurned, order_turned, bridge_turned}

-- an edge rotated: its ends rotated, in the other order
abbrev pub turned_pair : Pair × Pair → Pair × Pair
turned_pair e = (turned_point e.1, turned_point e.0)

-- each point rotated, in the other order, the upper edges as the lower ones
abbrev pub turned_tree : Tree → Tree
turned_tree (Leaf x) = Leaf (turned_point x)
turned_tree (Fork e f u w) = Fork (turned_pair f) (turned_pair e) (turned_tree w) (turned_tree u)

-- if a point is in the rotated half, the rotated point is in the half
pub on_turned : (t : Tree) (p : Pair) → On (turned_tree t) p → On t (turned_point p)
on_turned (Leaf x) p h = ap turned_point h ∙ turned_twice x
on_turned (Fork e f u w) p (inl h) = inr (on_turned w p h)
on_turned (Fork e f u w) p (inr h) = inl (on_turned u p h)

-- if a point is in the half, the rotated point is in the rotated half
pub turned_on : (t : Tree) (p : Pair) → On t p → On (turned_tree t) (turned_point p)
turned_on (Leaf x) p h = ap turned_point h
turned_on (Fork e f u w) p (inl h) = inr (turned_on u p h)
turned_on (Fork e f u w) p (inr h) = inl (turned_on w p h)

-- the first point of the rotated half is the last point rotated
pub first_turned : (t : Tree) → first_of (turned_tree t) ≡ turned_point (last_of t)
first_turned (Leaf x) = refl
first_turned (Fork e f u w) = first_turned w

-- the last point of the rotated half is the first point rotated
pub last_turned : (t : Tree) → last_of (turned_tree t) ≡ turned_point (first_of t)
last_turned (Leaf x) = refl
last_turned (Fork e f u w) = last_turned u

-- the points of the rotated half are the rotated points of the half
pub turn_of : (t : Tree) → AreTurned (On t) (On (turned_tree t))
turn_of t = record { onto = turned_on t; back = on_turned t }

-- the points of the half are the rotated points of the rotated half
pub turn_back : (t : Tree) → AreTurned (On (turned_tree t)) (On t)
turn_back t = record { onto = on_turned t; back = turned_on t }

-- the order of two halves is reversed by a rotation
pub halves_turned : (u w : Tree) → IsAllBefore (On u) (On w) → IsAllBefore (On (turned_tree w)) (On (turned_tree u))
halves_turned u w = order_turned (On u) (On w) _ _ (turn_of u) (turn_of w)

-- the upper bridge of the rotated halves, rotated, is the lower bridge of the halves
pub lower_from_turned : (u w : Tree) (p q : Pair) → IsUpperBridge (On (turned_tree w)) (On (turned_tree u)) p q
    → IsLowerBridge (On u) (On w) (turned_point q) (turned_point p)
lower_from_turned u w p q = bridge_turned Upper (On (turned_tree w)) (On (turned_tree u)) _ _ p q (turn_back w) (turn_back u)

-- a half that keeps the law keeps it after a rotation
pub bridged_turned : (t : Tree) → IsBridged t → IsBridged (turned_tree t)
bridged_turned (Leaf x) h = tt
bridged_turned (Fork e f u w) h = (
  halves_turned u w h.0,
  bridge_turned Lower (On u) (On w) _ _ f.0 f.1 (turn_of u) (turn_of w) h.2,
  bridge_turned Upper (On u) (On w) _ _ e.0 e.1 (turn_of u) (turn_of w) h.1,
  bridged_turned w h.4,
  bridged_turned u h.3,
)

-- a rotation keeps the height
pub height_turned : (t : Tree) → height_of (turned_tree t) ≡ height_of t
height_turned (Leaf x) = refl
height_turned (Fork e f u w) = omega (arith, height_turned u, height_turned w)

-- a rotation keeps the limit of the height
pub low_turned : (t : Tree) → height_of t ≤ highest → height_of (turned_tree t) ≤ highest
low_turned t h = rw (height_turned t) h

-- a rotation keeps depths
pub depth_turned : (t : Tree) (p : Pair) (n : ℕ) → IsAtDepth (turned_tree t) p n → IsAtDepth t (turned_point p) n
depth_turned (Leaf x) p n h = (ap turned_point h.0 ∙ turned_twice x, h.1)
depth_turned (Fork e f u w) p n (k, h, inl i) = (k, h, inr (depth_turned w p k i))
depth_turned (Fork e f u w) p n (k, h, inr i) = (k, h, inl (depth_turned u p k i))

-- a property that all points of a half have and a rotation keeps is one of all points of the rotated half
pub fits_turned : (P : Pair → Type 0) → ((p : Pair) → P p → P (turned_point p)) → (t : Tree)
    → ((p : Pair) → On t p → P p) → (p : Pair) → On (turned_tree t) p → P p
fits_turned P kept t all p i = subst P (turned_twice p) (kept (turned_point p) (all (turned_point p) (on_turned t p i)))
