-- what is left of the chain bends, and with the point it is what is left of the chain with it
use Rattle.std.proofs.Common.{◌≤◌, ◌++◌, ◌∷◌, []}
use Rattle.hull_geometry.specs.Monotone.{IsConvex, IsThinned}
use Rattle.hull_geometry.specs.Positions.{point_at}
use Rattle.hull_buckets.specs.Masks.{at_places}
use Rattle.hull_buckets.proofs.chain.pushed.Given as goal

abbrev pub invariant-loop-front : goal.invariant-loop-front
invariant-loop-front l = record {
  fewer : l.kept ≤ l.chain;
  convex : IsConvex l.side (at_places l.kept l.points);
  thinned : IsThinned l.side (at_places l.chain l.points ++ point_at l.points l.place ∷ [])
      (at_places l.kept l.points ++ point_at l.points l.place ∷ []);
}

abbrev pub decreases-loop-front : goal.decreases-loop-front
decreases-loop-front l = l.kept
