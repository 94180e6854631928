-- Two convex chains between two points, the one below and the other above their line: each edge of the one has the
-- points of the other on its left. The upper chain is given by its points after a rotation by 180 degrees.
use Rattle.std.proofs.Common.{◌≡◌, ℕ, ◌+◌, ◌≤◌, ◌<◌, pos, ◌<ℤ◌, sym, subst, arith}
use Rattle.lattice.specs.Plane.{Pair, orient, IsBefore, turned_point}
use Rattle.lattice.proofs.Sides.{side_turned_back}
use Rattle.lattice.proofs.LineCrossings.{orient_cycle}
use Rattle.lattice.proofs.TurnedBridges.{before_turned, before_turned_back}
use Rattle.hull_geometry.proofs.Orientation.{above}
use Rattle.hull_polygon.proofs.Convex.{IsConvex, later_after, left_or_end, not_right, inner_below, over_all}

-- g goes from one point to another, and the rotated h from that one back
pub record IsCounterpart (g : ℕ → Pair) (m : ℕ) (h : ℕ → Pair) (n : ℕ) : Type 0 where
  pub convex : IsConvex h n
  pub starts : h 0 ≡ turned_point (g m)
  pub ends : h n ≡ turned_point (g 0)

-- an inner point of the other chain is after the first point
pub after_start : (g : ℕ → Pair) (m : ℕ) (h : ℕ → Pair) (n k : ℕ) → IsCounterpart g m h n → k < n
    → IsBefore (g 0) (turned_point (h k))
after_start g m h n k o l =
    before_turned_back (h k) (g 0)
    (subst (λ (z : Pair). IsBefore (h k) z) o.ends (later_after h n k n o.convex l (omega arith)))

-- an inner point of the other chain is before the last point
before_end : (g : ℕ → Pair) (m : ℕ) (h : ℕ → Pair) (n k : ℕ) → IsCounterpart g m h n → 0 < k → k ≤ n
    → IsBefore (turned_point (h k)) (g m)
before_end g m h n k o p l =
    before_turned (h k) (g m) (subst (λ (z : Pair). IsBefore z (h k)) o.starts (later_after h n 0 k o.convex p l))

-- an inner point of the other chain lies over their line
inner_above : (g : ℕ → Pair) (m : ℕ) (h : ℕ → Pair) (n k : ℕ) → IsCounterpart g m h n → 0 < k → k < n
    → pos 0 <ℤ orient (g 0) (g m) (turned_point (h k))
inner_above g m h n k o p l =
    above _ _ (sym (orient_cycle (g 0) (g m) (turned_point (h k))))
    (above _ _ (side_turned_back (g m) (h k) (g 0))
    (subst (λ (z : Pair). pos 0 <ℤ orient z (h k) (turned_point (g 0))) o.starts
    (subst (λ (z : Pair). pos 0 <ℤ orient (h 0) (h k) z) o.ends (inner_below h n k o.convex p l))))

-- a point of the other chain lies left of each edge
pub edge_left : (g : ℕ → Pair) (m : ℕ) (h : ℕ → Pair) (n i j k : ℕ) → IsConvex g m → IsCounterpart g m h n → j ≡ i + 1
    → j ≤ m → 0 < k → k < n → pos 0 <ℤ orient (g i) (g j) (turned_point (h k))
edge_left g m h n i j k c o e l p q =
    over_all (g i) (g j) (g 0) (g m) (turned_point (h k)) (c.ascends i j e l) (after_start g m h n k o q)
    (before_end g m h n k o p (omega (arith, q)))
    (not_right (g i) (g j) (g 0) (left_or_end g m i j 0 c e l (omega arith)))
    (not_right (g i) (g j) (g m) (left_or_end g m i j m c e l (omega arith))) (inner_above g m h n k o p q)
