-- the tangent point of the subtree is that of the half
use Rattle.lattice.specs.Plane.{Pair}
use Rattle.bridge_search.specs.Trees.{height_of}
use Rattle.bridge_search.specs.Leaves.{points_of}
use Rattle.hull_geometry.specs.Hands.{IsOnHand}
use Rattle.hull_geometry.specs.Locations.{IsBelow}
use Rattle.hull_geometry.specs.Tangents.{IsTangent}
use Rattle.hull_questions.specs.Hands.{outermost}
use Rattle.hull_questions.proofs.questions.tangents.tangent_from_below.Given as goal

abbrev pub invariant-loop-next : goal.invariant-loop-next
invariant-loop-next g l = record {
  below : IsBelow (points_of (g.H.Half.tree l.part)) l.q;
  inwards : IsOnHand l.hand (outermost l.hand (g.H.Half.tree l.part)) l.q;
  lifts : (p : Pair) → IsTangent l.hand (points_of (g.H.Half.tree l.part)) l.q p
      → IsTangent l.hand (points_of (g.H.Half.tree l.fn.half)) l.q p;
}

abbrev pub decreases-loop-next : goal.decreases-loop-next
decreases-loop-next g l = height_of (g.H.Half.tree l.part)
