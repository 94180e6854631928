-- what a pass leaves of the chain so far and the vertices that are left, it leaves of all of them; after the first step the chain's last vertex is
-- the one before those that are left, at which these bend on
use Rattle.std.proofs.Common.{◌≡◌, ℕ, ◌<◌, ◌^◌, ◌++◌, ◌∷◌, [], List, false}
use Rattle.lattice.specs.Plane.{Pair}
use Rattle.hull_geometry.specs.Monotone.{IsConvex, IsPassed}
use Rattle.hull_buckets.specs.Masks.{at_places, AreApart}
use Rattle.hull_buckets.proofs.chain.taken_up.Given as goal

abbrev pub invariant-loop-left : goal.invariant-loop-left
invariant-loop-left l = record {
  apart : AreApart l.kept l.left;
  within : (k : ℕ) → l.chain < 2 ^ k → l.rest < 2 ^ k → (l.kept < 2 ^ k) × (l.left < 2 ^ k);
  convex : IsConvex l.side (at_places l.kept l.points);
  rest_convex : IsConvex l.side (at_places l.left l.points);
  bends : l.is_first ≡ false → (front : List Pair) × (q : Pair) × (at_places l.kept l.points ≡ front ++ q ∷ [])
      × IsConvex l.side (q ∷ at_places l.left l.points);
  passed : (new : List Pair) → IsPassed l.side (at_places l.kept l.points ++ at_places l.left l.points) new
      → IsPassed l.side (at_places l.chain l.points ++ at_places l.rest l.points) new;
}

abbrev pub decreases-loop-left : goal.decreases-loop-left
decreases-loop-left l = l.left
