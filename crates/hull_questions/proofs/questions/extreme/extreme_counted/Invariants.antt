-- the answer for the subtree is that for the whole, and the depth of a point of the subtree is so much more in the
-- whole
use Rattle.std.proofs.Common.{ℕ, ◌+◌, ◌≤◌}
use Rattle.lattice.specs.Plane.{Pair}
use Rattle.bridge_search.specs.Trees.{height_of, IsAtDepth}
use Rattle.bridge_search.specs.Leaves.{points_of}
use Rattle.hull_geometry.specs.Tangents.{IsFirstFarthest}
use Rattle.hull_questions.proofs.questions.extreme.extreme_counted.Given as goal

abbrev pub invariant-loop-next : goal.invariant-loop-next
invariant-loop-next g l = record {
  lifts : (p : Pair) → IsFirstFarthest (points_of (g.H.Half.tree l.part)) l.d p
      → IsFirstFarthest (points_of (g.H.Half.tree l.fn.half)) l.d p;
  deeper : (p : Pair) (n : ℕ) → IsAtDepth (g.H.Half.tree l.part) p n
      → IsAtDepth (g.H.Half.tree l.fn.half) p (n + l.depth);
  within : height_of (g.H.Half.tree l.part) + l.depth ≤ height_of (g.H.Half.tree l.fn.half);
}

abbrev pub decreases-loop-next : goal.decreases-loop-next
decreases-loop-next g l = height_of (g.H.Half.tree l.part)
