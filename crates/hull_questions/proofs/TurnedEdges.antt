-- After a rotation by 180 degrees the lower chain is the upper one.
use Rattle.std.proofs.Common.{arith}
use Rattle.std.proofs.lemmas.Grind.{common_steps}
use Rattle.std.proofs.Common.{◌≡◌, pos, ◌≤ℤ◌, sym, ◌∙◌}
use Rattle.std.specs.List.{All, Contains}
use Rattle.std.proofs.lemmas.List.Elements.{All-contains, All-weaker}
use Rattle.lattice.specs.Plane.{Pair, orient, IsBefore, turned_point}
use Rattle.bridge_search.specs.Trees.{Tree, first_of, last_of}
use Rattle.lattice.proofs.TurnedBridges.{before_turned, before_turned_back, turned_order, unturned}
use Rattle.lattice.proofs.Sides.{side_turned_over}
use Rattle.bridge_search.specs.TurnedTrees.{turned_tree, turned_on, on_turned, first_turned, last_turned}
use Rattle.bridge_search.specs.Leaves.{points_of}
use Rattle.bridge_search.proofs.Leaves.{on_of_contains, contains_of_on}
use Rattle.hull_geometry.proofs.PointLists.{all_of}
use Rattle.hull_geometry.proofs.Orientation.{at_least}
use Rattle.hull_geometry.specs.Edges.{IsLowerEdge, IsUpperEdge}
use Rattle.hull_geometry.specs.Locations.{IsLowerEdgeAt, IsUpperEdgeAt}
use Rattle.hull_questions.specs.Chains.{IsBeforeEnd, IsAfterStart}

-- a property of all points of the rotated half is one of each rotated point of the half
pub turned_all : (t : Tree) (P : Pair → Type 0) → All P (points_of (turned_tree t))
    → All (λ s. P (turned_point s)) (points_of t)
turned_all t P h = all_of (λ s. P (turned_point s)) (points_of t)
    (λ s m. All-contains P (points_of (turned_tree t)) (turned_point s) h
    (contains_of_on (turned_tree t) (turned_point s) (turned_on t s (on_of_contains t s m))))

-- a point of the rotated half is, rotated, a point of the half
pub turned_member : (t : Tree) (p : Pair) → Contains (points_of (turned_tree t)) p
    → Contains (points_of t) (turned_point p)
turned_member t p m = contains_of_on t (turned_point p) (on_turned t p (on_of_contains (turned_tree t) p m))

-- a lower edge of the rotated half is, rotated, an upper edge
pub upper_edge_of_turned : (t : Tree) (c d : Pair) → IsLowerEdge (points_of (turned_tree t)) c d
    → IsUpperEdge (points_of t) (turned_point c) (turned_point d)
upper_edge_of_turned t c d k = record {
  from = turned_member t c k.from;
  to = turned_member t d k.to;
  along = turned_order c d k.along;
  left = All-weaker (λ s. pos 0 ≤ℤ orient c d (turned_point s))
      (λ s. pos 0 ≤ℤ orient (turned_point c) (turned_point d) s) (λ s h. at_least _ _ (sym (side_turned_over c d s)) h)
      (points_of t)
      (turned_all t (λ s. pos 0 ≤ℤ orient c d s) k.left);
  last = All-weaker (λ s. orient c d (turned_point s) ≡ pos 0 → ¬ (IsBefore d (turned_point s)))
      (λ s. orient (turned_point c) (turned_point d) s ≡ pos 0 → ¬ (IsBefore s (turned_point d)))
      (λ s h z b. h (sym (side_turned_over c d s) ∙ z) (before_turned_back s d b)) (points_of t)
      (turned_all t (λ s. orient c d s ≡ pos 0 → ¬ (IsBefore d s)) k.last);
}

-- the lower edge of the rotated half at a rotated point is, rotated, the upper edge at the point
pub upper_of_turned : (t : Tree) (v : Pair) (e : Pair × Pair)
    → IsLowerEdgeAt (points_of (turned_tree t)) (turned_point v) e
    → IsUpperEdgeAt (points_of t) v (turned_point e.0, turned_point e.1)
upper_of_turned t v e k = record {
  edge = upper_edge_of_turned t e.0 e.1 k.edge;
  starts = λ b. k.starts (before_turned v e.0 b);
  onward = before_turned e.1 v k.onward;
}

-- a point after the start of the half is, rotated, before the end of the rotated half
pub inside_turned : (t : Tree) (v : Pair) → IsAfterStart t v → IsBeforeEnd (turned_tree t) (turned_point v)
inside_turned t v i = grind (arith, common_steps, unturned, last_of, turned_point, first_turned, last_turned, turned_order, first_of)
